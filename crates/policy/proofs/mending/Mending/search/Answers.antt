use Rattle.std.proofs.Common.{◌≡◌, ◌+◌, subst, arith}
use Rattle.arrayvec.specs.ArrayVec.{array_vec_len}
use Rattle.policy.specs.Graphs.{graph_of, Stuck}
use Rattle.policy.specs.Kernel.{joined_by, ports_of}
use Rattle.policy.specs.Searching.{seen}
use Rattle.policy.proofs.Reach.{course_end, course_low}
use Rattle.policy.proofs.mending.Mending.search.Goals as goal
use Rattle.policy.proofs.mending.Mending.search.Goals.{else-loop-place-test, then-loop-place-test+in_default}

pub returns : goal.returns
returns c =
    let m = c.args.self.now in
    let t = c.loop-place.trail in
    let inv = c.loop-place.invariant in
    let done : c.loop-place.place ≡ array_vec_len t.steps + 1 =
    elim c.loop-place-test.branch [
      | else-loop-place-test w ↦ omega (arith, inv.low, w.loop-place-test.false, course_low _ _ _ _ _ _ _ _ _ _ inv.course, m.side.ports.few)
      | then-loop-place-test+in_default w ↦ omega (arith, inv.low, w.in_default.ensures)
    ]
    in (
      seen t.unseen,
      subst (λ x. Stuck (ports_of m) (graph_of m.side) (joined_by m) m.want x (seen t.unseen)) inv.start (course_end _ _ _ _ _ _ _ _ _ _ inv.course done),
    )
