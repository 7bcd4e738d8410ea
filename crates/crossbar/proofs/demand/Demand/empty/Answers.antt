use Rattle.std.proofs.Common.{ap, refl, replicate, arith}
use Rattle.crossbar.specs.Arrays.{grid}
use Rattle.crossbar.specs.Loads.{Counts, turned}
use Rattle.crossbar.proofs.Loads.{load_zeros, loads_le}
use Rattle.crossbar.proofs.Places.{grid_zeros, square_replicate, zeros_all}
use Rattle.crossbar.proofs.Telling.{tells_nothing}
use Rattle.crossbar.proofs.demand.Demand.empty.Goals as goal

pub invariant_of-result : goal.invariant_of-result
invariant_of-result c =
    let n = c.args.ports.count in
    let d : Counts = grid n (replicate 16 (replicate 16 0)) in
    let zeros = grid_zeros n (replicate 16 (replicate 16 0)) (zeros_all 16 16) in
    record {
      square = record { height = refl; width = square_replicate 16 16 (replicate 16 0) refl };
      at_inputs = tells_nothing n c.idle-idle.result d c.idle-idle.ensures.load c.idle-idle.ensures.links (λ i j. ap (λ e. e i j) zeros);
      at_outputs = tells_nothing n c.idle-idle.result (turned d) c.idle-idle.ensures.load c.idle-idle.ensures.links (λ j i. ap (λ e. e i j) zeros);
      bounded = loads_le n d 1024 (λ p _. omega (arith, load_zeros n d p (λ i j. ap (λ e. e i j) zeros)));
    }

pub returns-clause-empty : goal.returns-clause-empty
returns-clause-empty c = grid_zeros c.args.ports.count (replicate 16 (replicate 16 0)) (zeros_all 16 16)
