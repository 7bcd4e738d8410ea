use Rattle.std.proofs.Common.{◌≡◌, ◌+◌, ◌≤◌}
use Rattle.arrayvec.specs.ArrayVec.{array_vec_len}
use Rattle.policy.specs.Kernel.{OnCourse}
use Rattle.policy.proofs.mending.Mending.search.Given as goal

abbrev pub invariant-loop-place : goal.invariant-loop-place
invariant-loop-place l =
    record {
      low : l.place ≤ array_vec_len l.trail.steps + 1;
      start : l.trail.start ≡ l.start;
      course : OnCourse l.self l.trail l.place;
    }
