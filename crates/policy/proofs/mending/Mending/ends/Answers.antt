use Rattle.std.proofs.Common.{◌≡◌, ℕ, ◌<◌, true, ltb, sym, ◌∙◌, subst, arith}
use Rattle.std.proofs.lemmas.Bool.{and_from, lt-ltb}
use Rattle.crossbar.specs.Joining.{Joins}
use Rattle.crossbar.specs.Models.{input_at}
use Rattle.crossbar.proofs.Giving.{given_first, given_last, given_more, given_next}
use Rattle.mask.specs.Bits.{holds}
use Rattle.policy.specs.Graphs.{graph_of, partners}
use Rattle.policy.specs.Kernel.{ports_of}
use Rattle.policy.specs.Paths.{Spare}
use Rattle.policy.proofs.Ending.{next_before, next_joined, spare_heavy, spare_light, spare_none}
use Rattle.policy.proofs.Removing.{cleared, others_stay}
use Rattle.policy.proofs.mending.Mending.ends.Goals as goal

pub loop-pair-init : goal.loop-pair-init
loop-pair-init c =
    let m = c.args.self.now in
    let few = m.side.ports.few in
    let (setting, none) = given_first m.setting c.into_iter-pair-iterator.result c.pairs-pair-items.result c.into_iter-pair-iterator.ensures.into_iter_gives c.pairs-pair-items.ensures.setting c.pairs-pair-items.ensures.start in
    let every : (k : ℕ) → k < ports_of m → holds c.below-ends.result k ≡ true =
    λ k l. c.below-ends.ensures k ∙ and_from (ltb k c.count.result) (ltb k 16) (lt-ltb k c.count.result (omega arith)) (lt-ltb k 16 (omega arith))
    in
    record {
      setting = setting;
      spare =
          subst (λ (s : Joins). Spare (ports_of m) (graph_of m.side) (partners s) m.want c.below-ends.result) (sym none)
          (spare_none (ports_of m) few (graph_of m.side) m.want c.below-ends.result every);
    }

pub loop-pair-preserved-then-load-self : goal.loop-pair-preserved-then-load-self
loop-pair-preserved-then-load-self c =
    let m = c.args.self.now in
    let s = input_at m.setting in
    let x = c.in-Some.pair in
    let it = c.loop-pair.pair-iterator in
    let (same, given) = c.in-Some.ensures.steps in
    let next = given_next m.setting it c.next.new.self x c.loop-pair.invariant.setting same given in
    record {
      setting = same ∙ c.loop-pair.invariant.setting;
      spare =
          subst (λ (f : Joins). Spare (ports_of m) (graph_of m.side) (partners f) m.want c.without-ends.result) (sym (given_more s it.output c.next.new.self.output x next))
          (spare_heavy (ports_of m) m.side.ports.few (graph_of m.side) m.want _ x.input x.output c.loop-pair.ends c.loop-pair.invariant.spare c.without-ends.result
          (m.fits.setting.inside x.input x.output (next_joined s it.output c.next.new.self.output x next)).0 (omega (arith, c.load.ensures, c.if-load-self.true))
          (cleared c.loop-pair.ends c.without-ends.result x.output c.without-ends.ensures) (others_stay c.loop-pair.ends c.without-ends.result x.output c.without-ends.ensures));
    }

pub loop-pair-preserved : goal.loop-pair-preserved
loop-pair-preserved c =
    let m = c.args.self.now in
    let s = input_at m.setting in
    let x = c.in-Some.pair in
    let it = c.loop-pair.pair-iterator in
    let (same, given) = c.in-Some.ensures.steps in
    let next = given_next m.setting it c.next.new.self x c.loop-pair.invariant.setting same given in
    record {
      setting = same ∙ c.loop-pair.invariant.setting;
      spare =
          subst (λ (f : Joins). Spare (ports_of m) (graph_of m.side) (partners f) m.want c.loop-pair.ends) (sym (given_more s it.output c.next.new.self.output x next))
          (spare_light (ports_of m) m.side.ports.few (graph_of m.side) m.want _ x.input x.output c.loop-pair.ends c.loop-pair.invariant.spare
          (omega (arith, c.load.ensures, c.if-load-self.false)) (next_before s it.output c.next.new.self.output x next));
    }

pub returns : goal.returns
returns c =
    let m = c.args.self.now in
    subst (λ (f : Joins). Spare (ports_of m) (graph_of m.side) (partners f) m.want c.loop-pair.ends)
    (given_last m.setting c.loop-pair.pair-iterator c.loop-pair.invariant.setting c.in-None.ensures.steps.1.0) c.loop-pair.invariant.spare
