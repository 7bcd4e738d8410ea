use Rattle.std.proofs.Common.{◌≡◌, ◌-◌}
use Rattle.arrayvec.specs.ArrayVec.{array_vec_len}
use Rattle.policy.specs.Kernel.{InRow}
use Rattle.policy.proofs.mending.Mending.spread.Given as goal

abbrev pub invariant-loop-output : goal.invariant-loop-output
invariant-loop-output l = record { start : l.trail.start ≡ l.initial.trail.start; row : InRow l.self l.row l.trail l.place }

abbrev pub decreases-loop-output : goal.decreases-loop-output
decreases-loop-output l = 16 - array_vec_len l.trail.steps
