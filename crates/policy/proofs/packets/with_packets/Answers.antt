use Rattle.std.proofs.Common.{sym, ap, ◌∙◌, arith}
use Rattle.crossbar.proofs.Giving.{given_first, given_last, given_next}
use Rattle.crossbar.proofs.Joins.{setting_rule}
use Rattle.crossbar.specs.Models.{input_at, waiting}
use Rattle.policy.specs.Mending.{with_packets}
use Rattle.policy.proofs.Dropping.{kept_join, kept_skip}
use Rattle.policy.proofs.packets.with_packets.Goals as goal

pub loop-pair-init : goal.loop-pair-init
loop-pair-init c =
    let (setting, none) = given_first c.args.setting.now c.into_iter-pair-iterator.result c.pairs-pair-items.result c.into_iter-pair-iterator.ensures.into_iter_gives c.pairs-pair-items.ensures.setting c.pairs-pair-items.ensures.start in
    record { setting = setting; kept = c.empty-kept.ensures ∙ sym (ap (with_packets (waiting c.args.demand.now)) none) }

pub loop-pair-preserved-then-count-gt0 : goal.loop-pair-preserved-then-count-gt0
loop-pair-preserved-then-count-gt0 c =
    let it = c.loop-pair.pair-iterator in
    let inv = c.loop-pair.invariant in
    let (same, more) = c.in-Some.ensures.steps in
    let next = given_next c.args.setting.now it c.next.new.self c.in-Some.pair inv.setting same more in
    record {
      setting = same ∙ inv.setting;
      kept =
          kept_join (waiting c.args.demand.now) (input_at c.args.setting.now) (setting_rule c.args.setting.now) it.output c.next.new.self.output c.in-Some.pair next
          (omega (arith, c.count.ensures, c.if-count-gt0.true)) c.loop-pair.kept c.join-joined.new.self c.join-joined.result inv.kept
          c.join-joined.ensures.possible c.join-joined.ensures.after;
    }

pub loop-pair-preserved : goal.loop-pair-preserved
loop-pair-preserved c =
    let it = c.loop-pair.pair-iterator in
    let inv = c.loop-pair.invariant in
    let (same, more) = c.in-Some.ensures.steps in
    let next = given_next c.args.setting.now it c.next.new.self c.in-Some.pair inv.setting same more in
    record {
      setting = same ∙ inv.setting;
      kept = inv.kept ∙ kept_skip (waiting c.args.demand.now) (input_at c.args.setting.now) (setting_rule c.args.setting.now) it.output c.next.new.self.output c.in-Some.pair next (omega (arith, c.count.ensures, c.if-count-gt0.false));
    }

pub returns : goal.returns
returns c =
    let inv = c.loop-pair.invariant in
    inv.kept ∙ ap (with_packets (waiting c.args.demand.now)) (given_last c.args.setting.now c.loop-pair.pair-iterator inv.setting c.in-None.ensures.steps.1.0)
