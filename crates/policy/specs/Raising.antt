-- What raising a demand gives.
use Rattle.std.specs.Prelude.{◌≡◌, ℕ, ◌<◌, ◌≤◌}
use Rattle.crossbar.specs.Loads.{Critical, index}
use Rattle.crossbar.specs.Models.{largest_of, load_of, size, waiting}
use Rattle.crossbar.specs.declared.demand.Demand.{Demand}
use Rattle.crossbar.specs.declared.port.Port.{Port}
use Rattle.crossbar.specs.declared.port.Port.TheVariants.{Input, Output}

-- every load is the largest load of before, no count is lowered, and none is raised at a port that was critical
pub record Raised (before after : Demand) : Type 0 where
  pub ports : after.ports ≡ before.ports
  pub level : (p : Port) → index p < size before → load_of after p ≡ largest_of before
  pub kept : (i j : ℕ) → waiting before i j ≤ waiting after i j
  pub at_input : (i j : ℕ) → Critical (size before) (waiting before) (Input i) → waiting after i j ≡ waiting before i j
  pub at_output : (i j : ℕ) → Critical (size before) (waiting before) (Output j) → waiting after i j ≡ waiting before i j
