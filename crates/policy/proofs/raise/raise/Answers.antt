use Rattle.std.proofs.Common.{◌≡◌, ap, ◌∙◌, inl, inr, arith}
use Rattle.crossbar.specs.Models.{size}
use Rattle.crossbar.specs.declared.port.Port.TheVariants.{Input, Output}
use Rattle.crossbar.specs.declared.ports.Ports.{Ports}
use Rattle.policy.proofs.Raising.{load_low, raised, step_input, step_output}
use Rattle.policy.proofs.raise.raise.Goals as goal

pub overflow_sub-at_input : goal.overflow_sub-at_input
overflow_sub-at_input c =
    let (ports, rise) = c.loop-input.invariant in
    let count : c.count-ports.result ≡ size c.args.demand.now = c.count-ports.ensures ∙ ap (λ (p : Ports). p.count) c.ports.ensures in
    omega (arith, c.load.ensures, load_low c.args.demand.now c.loop-input.raised _ _ _ ports rise (Input c.loop-input.input) (omega (arith, c.loop-input-test.true)))

pub overflow_sub-at_output : goal.overflow_sub-at_output
overflow_sub-at_output c =
    let (ports, rise) = c.loop-input.invariant in
    let count : c.count-ports.result ≡ size c.args.demand.now = c.count-ports.ensures ∙ ap (λ (p : Ports). p.count) c.ports.ensures in
    omega (arith, c.load-in-loop-input.ensures, load_low c.args.demand.now c.loop-input.raised _ _ _ ports rise (Output c.loop-input.output) (omega (arith, c.if-output-ports.true)))

pub loop-input-preserved-then-at_input-at_output : goal.loop-input-preserved-then-at_input-at_output
loop-input-preserved-then-at_input-at_output c =
    let d = c.args.demand.now in
    let (ports, rise) = c.loop-input.invariant in
    let count : c.count-ports.result ≡ size d = c.count-ports.ensures ∙ ap (λ (p : Ports). p.count) c.ports.ensures in (
      c.add_many-room.ensures.ports ∙ ports,
      step_input d c.loop-input.raised _ _ _ ports rise (omega (arith, c.loop-input-test.true)) (omega (arith, c.if-output-ports.true))
          (omega (arith, c.largest_load-level.ensures.value, d.bounded)) _ _ _ c.load.ensures c.load-in-loop-input.ensures c.min.ensures _ _ c.add_many-room.ensures (omega (arith, c.if-at_input-at_output.true)),
    )

pub loop-input-preserved : goal.loop-input-preserved
loop-input-preserved c =
    let d = c.args.demand.now in
    let (ports, rise) = c.loop-input.invariant in
    let count : c.count-ports.result ≡ size d = c.count-ports.ensures ∙ ap (λ (p : Ports). p.count) c.ports.ensures in (
      c.add_many-room.ensures.ports ∙ ports,
      step_output d c.loop-input.raised _ _ _ ports rise (omega (arith, c.loop-input-test.true)) (omega (arith, c.if-output-ports.true))
          (omega (arith, c.largest_load-level.ensures.value, d.bounded)) _ _ _ c.load.ensures c.load-in-loop-input.ensures c.min.ensures _ _ c.add_many-room.ensures (omega (arith, c.if-at_input-at_output.false)),
    )

pub returns-else-output-ports : goal.returns-else-output-ports
returns-else-output-ports c =
    let (ports, rise) = c.loop-input.invariant in
    let count : c.count-ports.result ≡ size c.args.demand.now = c.count-ports.ensures ∙ ap (λ (p : Ports). p.count) c.ports.ensures in
    raised c.args.demand.now c.loop-input.raised _ _ _ ports rise c.largest_load-level.ensures.value (inr (omega (arith, c.if-output-ports.false)))

pub returns-after-loop-input : goal.returns-after-loop-input
returns-after-loop-input c =
    let (ports, rise) = c.loop-input.invariant in
    let count : c.count-ports.result ≡ size c.args.demand.now = c.count-ports.ensures ∙ ap (λ (p : Ports). p.count) c.ports.ensures in
    raised c.args.demand.now c.loop-input.raised _ _ _ ports rise c.largest_load-level.ensures.value (inl (omega (arith, c.loop-input-test.false)))
