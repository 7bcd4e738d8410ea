use Rattle.std.proofs.Common.{sym, refl, ap, ◌∙◌, subst, arith}
use Rattle.crossbar.specs.Clearing.{Lawful}
use Rattle.crossbar.specs.Models.{size, waiting}
use Rattle.crossbar.specs.declared.ports.Ports.{Ports}
use Rattle.policy.specs.Mending.{pair_count}
use Rattle.policy.proofs.Settling.{fits_other, serves_along, serves_side, settled}
use Rattle.policy.proofs.settle.settle.Goals as goal

pub invariant_of-by_outputs : goal.invariant_of-by_outputs
invariant_of-by_outputs c =
    let d = c.args.demand.now in
    let ins = c.inputs.ensures in
    let outs = c.outputs.ensures in
    record {
      fits =
          fits_other (size d) (waiting d) c.largest_load-want.result c.fill-joined.new.self
          (serves_along _ _ _ _ (serves_side d.ports _ _ _ ins.ports refl ins.masks ins.loads) _ c.fill-joined.ensures.alike)
          c.outputs.result (ap (λ (p : Ports). p.count) outs.ports) (record { links = λ i j _ _. outs.masks i j; loads = λ i _. outs.loads i })
          c.turned.result c.turned.ensures.inputs;
    }

pub returns : goal.returns
returns c =
    let d = c.args.demand.now in
    let ins = c.inputs.ensures in
    let outs = c.outputs.ensures in
    let first = c.fill-joined.ensures in
    let second = c.fill-joined-2.ensures in
    let is = c.turned-2.ensures.inputs in
    let (lawful, grown, still) =
    settled (size d) (waiting d) c.largest_load-want.result _ _ _ _ _ _ first.alike second.alike c.largest_load-want.ensures.value (omega (arith, c.if-want-eq0.false))
    (serves_side d.ports _ _ _ ins.ports refl ins.masks ins.loads) (serves_side d.ports _ _ _ outs.ports refl outs.masks outs.loads)
    c.turned.ensures.inputs c.turned.ensures.outputs first.grown second.grown first.full second.full first.critical second.critical first.still second.still
    in
    record {
      lawful = subst (Lawful (size d) (waiting d)) (sym is) lawful;
      grown = omega (arith, ap pair_count is, grown);
      still = λ law. is ∙ still law;
    }
