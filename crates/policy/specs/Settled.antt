-- A setting in a demand before its critical ports are joined.
use Rattle.std.specs.Prelude.{◌≡◌, ℕ, ◌≤◌, Some}
use Rattle.crossbar.specs.Joining.{IsSetting, Joins}
use Rattle.crossbar.specs.Loads.{Counts}

-- a setting that joins only pairs with a packet
pub record Matched (n : ℕ) (c : Counts) (s : Joins) : Type 0 where
  pub setting : IsSetting n s
  pub packet : (i j : ℕ) → s j ≡ Some i → 1 ≤ c i j
