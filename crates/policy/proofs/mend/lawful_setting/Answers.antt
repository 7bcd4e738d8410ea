use Rattle.std.proofs.Common.{sym, subst}
use Rattle.crossbar.specs.Models.{size, waiting}
use Rattle.policy.specs.Settled.{Matched}
use Rattle.policy.proofs.Dropping.{matched_none}
use Rattle.policy.proofs.mend.lawful_setting.Goals as goal

pub settle-requires : goal.settle-requires
settle-requires c = subst (Matched (size c.args.demand.now) (waiting c.args.demand.now)) (sym c.empty.ensures) (matched_none _ _)
