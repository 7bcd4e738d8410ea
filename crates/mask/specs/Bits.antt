-- A mask as a set of ports: a port is in it if the bit of its number is set.
use Rattle.std.specs.Prelude.{◌≡◌, ℕ, ◌/◌, ◌%◌, ◌^◌, ◌<◌, Bool, true, false, ◌==◌}
use Rattle.mask.specs.declared.Mask.{Mask}

-- bit k of a number
unfoldable pub bit : ℕ → ℕ → Bool
bit m k = m / 2 ^ k % 2 == 1

abbrev pub holds : Mask → ℕ → Bool
holds m k = bit m.bits k

-- the smallest port of a set
pub record Lowest (m : Mask) (j : ℕ) : Type 0 where
  pub within : j < 16
  pub here : holds m j ≡ true
  pub first : (k : ℕ) → k < j → holds m k ≡ false
