use Rattle.crossbar.proofs.Joins.{within_back}
use Rattle.crossbar.proofs.setting.Setting.turned.Goals as goal

pub invariant_of-result : goal.invariant_of-result
invariant_of-result c =
    let s = c.args.self.now in
    record { sized = (s.sized.1, s.sized.0); there = s.back; back = s.there; few = s.few; within = within_back s }
