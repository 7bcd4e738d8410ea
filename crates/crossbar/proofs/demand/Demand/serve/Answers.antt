use Rattle.std.proofs.Common.{◌≡◌, sym, refl, ap, ◌∙◌, subst, arith}
use Rattle.crossbar.specs.Clearing.{Lowers, served}
use Rattle.crossbar.specs.Models.{given_by, input_at, size, waiting}
use Rattle.crossbar.specs.declared.setting.pairs.Pairs.{Pairs}
use Rattle.crossbar.proofs.Clearing.{lowers}
use Rattle.crossbar.proofs.Joins.{joined_past}
use Rattle.crossbar.proofs.Serving.{below_all, pairs_few, taken, taken_below, underway_next}
use Rattle.crossbar.proofs.demand.Demand.serve.Goals as goal

pub loop-pair-init : goal.loop-pair-init
loop-pair-init c =
    let it = c.into_iter-pair-iterator.ensures.into_iter_gives in
    record {
      setting = ap (λ (p : Pairs). p.setting.now) it ∙ c.pairs-pair-items.ensures.setting;
      ports = refl;
      counts = sym (ap (λ ps. taken ps (waiting c.args.self.now)) (ap given_by it ∙ c.pairs-pair-items.ensures.start));
      departures = omega arith;
      few = omega arith;
    }

pub overflow_add-departed : goal.overflow_add-departed
overflow_add-departed c =
    let it = c.loop-pair.pair-iterator in
    omega (arith, c.loop-pair.invariant.few, pairs_few (input_at it.setting.now) (joined_past it.setting.now) it.output)

pub loop-pair-preserved-then-take : goal.loop-pair-preserved-then-take
loop-pair-preserved-then-take c =
    let (setting, given) = c.in-Some.ensures.steps in
    underway_next _ _ _ _ _ _ c.in-Some.pair 1 _ _ c.loop-pair.invariant setting given c.take.ensures.ports c.take.ensures.after c.if-take.ensures.count (omega arith) refl

pub loop-pair-preserved : goal.loop-pair-preserved
loop-pair-preserved c =
    let (setting, given) = c.in-Some.ensures.steps in
    underway_next _ _ _ _ _ _ c.in-Some.pair 0 _ _ c.loop-pair.invariant setting given c.take.ensures.ports c.take.ensures.after c.if-take.ensures.count (omega arith) (omega arith)

pub returns : goal.returns
returns c =
    let d = c.args.self.now in
    let s = c.args.setting.now in
    let u = c.loop-pair.invariant in
    let it = c.loop-pair.pair-iterator in
    let after : waiting c.loop-pair.self ≡ served (input_at s) (waiting d) =
    u.counts
    ∙ ap (λ ps. taken ps (waiting d)) c.in-None.ensures.steps.1.0
    ∙ taken_below (input_at it.setting.now) (waiting d) 16
    ∙ ap (λ x. served x (waiting d)) (below_all 16 _ (joined_past it.setting.now) ∙ ap input_at u.setting)
    in
    record {
      ports = u.ports;
      counts = after;
      departures = u.departures;
      lowers = λ law. subst (Lowers (size d) (waiting d)) (sym after) (lowers (size d) (waiting d) (input_at s) law);
    }
