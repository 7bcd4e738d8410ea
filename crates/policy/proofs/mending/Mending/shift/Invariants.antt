use Rattle.policy.proofs.Flipping.{Midway}
use Rattle.policy.proofs.mending.Mending.shift.Given as goal

abbrev pub invariant-loop-place : goal.invariant-loop-place
invariant-loop-place l = Midway l.initial.self l.path l.self l.place l.output

abbrev pub decreases-loop-place : goal.decreases-loop-place
decreases-loop-place l = l.place
