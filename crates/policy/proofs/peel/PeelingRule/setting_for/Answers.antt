use Rattle.std.proofs.Common.{sym, subst}
use Rattle.crossbar.specs.Clearing.{Lawful}
use Rattle.crossbar.specs.Models.{input_at, size, waiting}
use Rattle.policy.proofs.Peeling.{peeled}
use Rattle.policy.proofs.peel.PeelingRule.setting_for.Goals as goal

pub returns : goal.returns
returns c =
    let d = c.args.demand.now in
    let whole = input_at c.lawful_setting-whole.result in
    subst (Lawful (size d) (waiting d)) (sym c.with_packets.ensures)
    (peeled d c.raise.result c.raise.ensures whole c.lawful_setting-whole.ensures)
