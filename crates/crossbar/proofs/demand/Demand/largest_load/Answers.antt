use Rattle.std.proofs.Common.{◌≡◌, ℕ, ◌<◌, ◌≤◌, inl, inr, sym, ap, subst, arith}
use Rattle.std.proofs.lemmas.Bool.{cases_lt}
use Rattle.crossbar.specs.Clearing.{NoFewer}
use Rattle.crossbar.specs.Loads.{index}
use Rattle.crossbar.specs.Models.{largest_of, load_of, size, waiting}
use Rattle.crossbar.specs.declared.demand.Demand.{Demand}
use Rattle.crossbar.specs.declared.port.Port.{Port}
use Rattle.crossbar.specs.declared.port.Port.TheVariants.{Input, Output}
use Rattle.crossbar.specs.declared.ports.Ports.{Ports}
use Rattle.crossbar.proofs.Clearing.{no_fewer}
use Rattle.crossbar.proofs.Loads.{load_le, loads_le}
use Rattle.crossbar.proofs.Room.{port_inside}
use Rattle.crossbar.proofs.demand.Demand.largest_load.Goals as goal

-- the largest load of one side is 0 or one of the loads, so no larger than the largest of all
side_le : (d : Demand) (port : ℕ → Port) (f : ℕ → ℕ) (x : ℕ) → ((k : ℕ) → f k ≡ load_of d (port k)) → (0 < x → (k : ℕ) × (k < 16) × (f k ≡ x)) → x ≤ largest_of d
side_le d port f x is there =
    elim (cases_lt 0 x) [
      | inl l ↦
          let (k, _, e) = there l in
          omega (arith, e, is k, load_le (size d) (waiting d) (port k) (port_inside d (port k) (omega (arith, e, is k))))
      | inr g ↦ omega arith
    ]

pub returns : goal.returns
returns c =
    let d = c.args.self.now in
    let at_inputs = c.largest_load-at_inputs.ensures in
    let at_outputs = c.largest_load-at_outputs.ensures in
    let inputs : c.inputs.result.ports.count ≡ size d = ap (λ (p : Ports). p.count) c.inputs.ensures.ports in
    let outputs : c.outputs.result.ports.count ≡ size d = ap (λ (p : Ports). p.count) c.outputs.ensures.ports in
    let below : (p : Port) → index p < size d → load_of d p ≤ c.max.result =
    elim [
      | Input i ↦ λ l. omega (arith, c.inputs.ensures.loads i, at_inputs.most i (omega (arith, l, inputs)), c.max.ensures)
      | Output j ↦ λ l. omega (arith, c.outputs.ensures.loads j, at_outputs.most j (omega (arith, l, outputs)), c.max.ensures)
    ]
    in
    let value : c.max.result ≡ largest_of d =
    omega (
      arith,
      c.max.ensures,
      loads_le (size d) (waiting d) c.max.result below,
      side_le d Input _ _ c.inputs.ensures.loads at_inputs.there,
      side_le d Output _ _ c.outputs.ensures.loads at_outputs.there,
    )
    in
    record { value = value; fewest = subst (NoFewer (size d) (waiting d)) (sym value) (no_fewer (size d) (waiting d)) }
