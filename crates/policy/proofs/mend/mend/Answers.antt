use Rattle.std.proofs.Common.{sym, ap, ◌∙◌, subst, arith}
use Rattle.crossbar.proofs.Joins.{setting_rule}
use Rattle.crossbar.specs.Clearing.{Lawful}
use Rattle.crossbar.specs.Models.{input_at, size, waiting}
use Rattle.policy.specs.Mending.{pair_count}
use Rattle.policy.specs.Settled.{Matched}
use Rattle.policy.proofs.Dropping.{packets_lawful, packets_matched}
use Rattle.policy.proofs.mend.mend.Goals as goal

pub settle-requires : goal.settle-requires
settle-requires c =
    let d = c.args.demand.now in
    subst (Matched (size d) (waiting d)) (sym c.with_packets.ensures) (packets_matched d _ (setting_rule c.args.start.now))

pub returns : goal.returns
returns c =
    let d = c.args.demand.now in
    let s = input_at c.args.start.now in
    let is = c.with_packets.ensures in
    record {
      lawful = c.settle.ensures.lawful;
      pairs = omega (arith, ap pair_count is, c.settle.ensures.grown);
      same =
          λ law.
          let kept = is ∙ packets_lawful (size d) (waiting d) s law in
          c.settle.ensures.still (subst (Lawful (size d) (waiting d)) (sym kept) law) ∙ kept;
    }
