-- Settings: which inputs are joined to which outputs.
use Rattle.std.specs.Prelude.{◌≡◌, ℕ, zero, suc, ◌<◌, cond, List, [], ◌++◌, Some, None, Option, ◌==◌}
use Rattle.crossbar.specs.Loads.{Counts}
use Rattle.crossbar.specs.declared.port.Pair.{Pair}
use Rattle.crossbar.specs.declared.port.Port.{Port}
use Rattle.crossbar.specs.declared.port.Port.TheVariants.{Input, Output}
use Rattle.std.specs.Option.{option_map, option_to_list}

-- for each output, the input joined to it, or none
abbrev pub Joins : Type 0
Joins = ℕ → Option ℕ

-- the setting rule: only ports below n are joined, and none twice (an output is joined once, since a function gives it one input)
pub record IsSetting (n : ℕ) (s : Joins) : Type 0 where
  pub inside : (i j : ℕ) → s j ≡ Some i → (i < n) × (j < n)
  pub once : (i j k : ℕ) → s j ≡ Some i → s k ≡ Some i → j ≡ k

-- a port is joined to some port of the other side
abbrev pub Joined : Joins → Port → Type 0
Joined s (Input i) = (j : ℕ) × (s j ≡ Some i)
Joined s (Output j) = (i : ℕ) × (s j ≡ Some i)

-- joins nothing
abbrev pub unjoined : Joins
unjoined j = None

-- joins input a to output b besides what s joins
abbrev pub with_pair : ℕ → ℕ → Joins → Joins
with_pair a b s j = cond (j == b) (Some a) (s j)

-- joins nothing to output b, and every other output as s does
abbrev pub freed : ℕ → Joins → Joins
freed b s j = cond (j == b) None (s j)

-- the input joined to an output, but none where that is input a
abbrev pub but_input : ℕ → Option ℕ → Option ℕ
but_input a None = None
but_input a (Some i) = cond (i == a) None (Some i)

-- joins input a to output b and to no other output, and every other input but the one that b had as s does
abbrev pub moved : ℕ → ℕ → Joins → Joins
moved a b s j = cond (j == b) (Some a) (but_input a (s j))

abbrev pub is_input : Option ℕ → ℕ → ℕ
is_input None i = 0
is_input (Some a) i = cond (i == a) 1 0

-- 1 at each joined pair, 0 at every other
abbrev pub joined : Joins → Counts
joined s i j = is_input (s j) i

-- the joined pairs of the outputs below k, in order of output
unfoldable pub pairs_below : Joins → ℕ → List Pair
pairs_below s zero = []
pairs_below s (suc k) = pairs_below s k ++ option_to_list (option_map (λ i. record { input = i; output = k }) (s k))
