use Rattle.std.proofs.Common.{◌≡◌, ◌+◌, sym, refl, ◌∙◌, subst, arith}
use Rattle.arrayvec.specs.ArrayVec.{array_vec_len}
use Rattle.crossbar.specs.Models.{input_at}
use Rattle.policy.specs.Graphs.{graph_of}
use Rattle.policy.specs.Kernel.{ins, joined_by, outs, parents, ports_of}
use Rattle.policy.specs.Searching.{Row}
use Rattle.policy.specs.declared.trail.Step.{Step}
use Rattle.policy.specs.declared.trail.Trail.{Trail}
use Rattle.policy.proofs.Reach.{course_space, Pushes, row_more}
use Rattle.policy.proofs.Removing.{cleared, in_second, others_stay}
use Rattle.policy.proofs.Trails.{pushes_ins, pushes_outs, pushes_parents}
use Rattle.policy.proofs.Turning.{partners_some}
use Rattle.policy.proofs.mending.Mending.spread.Goals as goal

pub push-requires : goal.push-requires
push-requires c =
    let r = c.loop-output.invariant.row in
    let here = in_second c.args.row c.loop-output.trail.unseen c.meet.result c.in-Some.output c.meet.ensures c.in-Some.ensures.here in
    (omega arith, omega (arith, course_space _ _ _ _ _ _ _ _ _ _ r.course c.in-Some.output here, c.args.self.now.side.ports.few))

pub loop-output-smaller-in-Some-input_of : goal.loop-output-smaller-in-Some-input_of
loop-output-smaller-in-Some-input_of c =
    let r = c.loop-output.invariant.row in
    let here = in_second c.args.row c.loop-output.trail.unseen c.meet.result c.in-Some.output c.meet.ensures c.in-Some.ensures.here in
    omega (arith, course_space _ _ _ _ _ _ _ _ _ _ r.course c.in-Some.output here, c.args.self.now.side.ports.few, c.push.ensures.len)

pub loop-output-preserved-in-Some-input_of : goal.loop-output-preserved-in-Some-input_of
loop-output-preserved-in-Some-input_of c =
    let m = c.args.self.now in
    let t = c.loop-output.trail in
    let j = c.in-Some.output in
    let i = c.in-Some-input_of.input in
    let r = c.loop-output.invariant.row in
    let step : Step = record { input = i; output = j; parent = c.args.place } in
    let u : Trail = record { start = t.start; steps = c.push.new.self; unseen = c.without-trail.result } in
    let both = sym (c.meet.ensures j) ∙ c.in-Some.ensures.here in
    let joined : i ≡ joined_by m j = sym (partners_some (input_at m.setting) i j (sym c.input_of.ensures ∙ c.in-Some-input_of.is)) in
    let pi : Pushes (ins t) (array_vec_len t.steps + 1) (joined_by m j) (ins u) =
    subst (λ x. Pushes (ins t) (array_vec_len t.steps + 1) x (ins u)) joined (pushes_ins t u step refl c.push.ensures.items)
    in
    record {
      start = c.loop-output.invariant.start;
      row =
          subst (λ k. Row (ports_of m) (graph_of m.side) (joined_by m) m.want c.args.row (ins u) (outs u) (parents u) u.unseen k c.args.place) (sym c.push.ensures.len)
          (row_more _ _ _ _ _ _ _ _ _ _ _ r j c.without-trail.result both
          (cleared t.unseen c.without-trail.result j c.without-trail.ensures)
          (others_stay t.unseen c.without-trail.result j c.without-trail.ensures)
          (ins u) (outs u) (parents u) pi (pushes_outs t u step refl c.push.ensures.items) (pushes_parents t u step refl c.push.ensures.items));
    }

pub overflow_cast-place : goal.overflow_cast-place
overflow_cast-place c =
    let r = c.loop-output.invariant.row in
    let here = in_second c.args.row c.loop-output.trail.unseen c.meet.result c.in-Some.output c.meet.ensures c.in-Some.ensures.here in
    omega (arith, r.low, course_space _ _ _ _ _ _ _ _ _ _ r.course c.in-Some.output here, c.args.self.now.side.ports.few)
