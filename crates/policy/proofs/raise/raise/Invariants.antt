use Rattle.std.proofs.Common.{◌≡◌, ◌+◌, ◌-◌}
use Rattle.crossbar.specs.Models.{size, waiting}
use Rattle.policy.proofs.Levelling.{Rising}
use Rattle.policy.proofs.raise.raise.Given as goal

abbrev pub invariant-loop-input : goal.invariant-loop-input
invariant-loop-input l =
    (l.raised.ports ≡ l.demand.ports)
    × Rising (size l.demand) (waiting l.demand) l.level (waiting l.raised) l.input l.output

abbrev pub decreases-loop-input : goal.decreases-loop-input
decreases-loop-input l = (l.ports - l.input) + (l.ports - l.output)
