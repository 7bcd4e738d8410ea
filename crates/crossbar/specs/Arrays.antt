-- How arrays hold counts and settings.
use Rattle.std.specs.Prelude.{◌≡◌, ℕ, ◌<◌, ◌&&◌, List, [], length, Some, None, Option, if◌then◌else◌, nat_lt, slice_index, slice_index_or}
use Rattle.crossbar.specs.Loads.{Counts}

-- sixteen rows of sixteen
pub record Square (rows : List (List ℕ)) : Type 0 where
  pub height : length rows ≡ 16
  pub width : (i : ℕ) → i < 16 → length (slice_index_or rows i []) ≡ 16

-- counts kept in rows, a row an input; nothing waits at ports from n on
unfoldable pub grid : ℕ → List (List ℕ) → Counts
grid n rows i j = if nat_lt i n && nat_lt j n then slice_index (slice_index_or rows i []) j else 0

-- where the first array joins j to i, the second joins i to j
abbrev pub Mirrors : List (Option ℕ) → List (Option ℕ) → Type 0
Mirrors xs ys = (i j : ℕ) → slice_index_or xs j None ≡ Some i → slice_index_or ys i None ≡ Some j

-- every port that the array joins, and what it joins it to, is below n
abbrev pub Within : ℕ → List (Option ℕ) → Type 0
Within n xs = (i j : ℕ) → slice_index_or xs j None ≡ Some i → (i < n) × (j < n)
