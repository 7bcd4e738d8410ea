-- Serving a demand by settings, what it takes to clear one, and the settings that are lawful for it.
use Rattle.std.specs.Prelude.{◌≡◌, ℕ, ◌+◌, ◌-◌, ◌<◌, ◌≤◌, List, [], ◌∷◌, length, Some}
use Rattle.std.specs.List.{AllByRecursion}
use Rattle.crossbar.specs.Joining.{Joins, IsSetting, Joined, joined}
use Rattle.crossbar.specs.Loads.{Counts, Critical, largest_load}
use Rattle.crossbar.specs.declared.port.Port.{Port}

-- one packet leaves each joined pair that has one
abbrev pub served : Joins → Counts → Counts
served s d i j = d i j - joined s i j

-- served by each of these settings in turn
abbrev pub served_all : List Joins → Counts → Counts
served_all [] d = d
served_all (s ∷ ss) d = served_all ss (served s d)

-- settings that, one after the other, leave nothing of what waits
pub record Clears (n : ℕ) (ss : List Joins) (d : Counts) : Type 0 where
  pub settings : AllByRecursion (IsSetting n) ss
  pub nothing_left : (i j : ℕ) → i < n → j < n → served_all ss d i j ≡ 0

-- a setting that joins only pairs with a packet, and every critical port
pub record Lawful (n : ℕ) (d : Counts) (s : Joins) : Type 0 where
  pub setting : IsSetting n s
  pub packet : (i j : ℕ) → s j ≡ Some i → 1 ≤ d i j
  pub critical : (p : Port) → Critical n d p → Joined s p

-- each of these settings is lawful for what those before it leave
abbrev pub AllLawful : ℕ → Counts → List Joins → Type 0
AllLawful n d [] = Unit {0}
AllLawful n d (s ∷ ss) = Lawful n d s × AllLawful n (served s d) ss

-- The law of the lower bound: whatever settings clear what waits, there are at least `fewest` of them.
abbrev pub NoFewer : ℕ → Counts → ℕ → Type 0
NoFewer n d fewest = (ss : List Joins) → Clears n ss d → fewest ≤ length ss

-- The law of one lawful serving: it lowers the largest load by exactly one, and where that is 0 it changes nothing.
pub record Lowers (n : ℕ) (before after : Counts) : Type 0 where
  pub by_one : 1 ≤ largest_load n before → largest_load n after + 1 ≡ largest_load n before
  pub at_zero : largest_load n before ≡ 0 → after ≡ before

-- The law of lawful servings in turn: each lowers the largest load by one, and they clear what waits exactly once they are as many as it was.
pub record Exactly (n : ℕ) (d : Counts) (ss : List Joins) : Type 0 where
  pub lowered : largest_load n (served_all ss d) ≡ largest_load n d - length ss
  pub clear : largest_load n d ≤ length ss → Clears n ss d
  pub no_earlier : Clears n ss d → largest_load n d ≤ length ss
