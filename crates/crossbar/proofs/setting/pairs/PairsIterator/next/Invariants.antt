use Rattle.std.proofs.Common.{◌≡◌}
use Rattle.crossbar.specs.Joining.{pairs_below}
use Rattle.crossbar.specs.Models.{given_by, input_at}
use Rattle.crossbar.proofs.setting.pairs.PairsIterator.next.Given as goal

abbrev pub invariant-loop-output : goal.invariant-loop-output
invariant-loop-output l =
    (l.self ≡ l.initial.self) × (pairs_below (input_at l.initial.self.setting.now) l.output ≡ given_by l.initial.self)
