-- What waits at a crossbar of n inputs and n outputs, the load of a port, and the critical ports.
use Rattle.std.specs.Prelude.{◌≡◌, ℕ, ◌+◌, ◌-◌, ◌*◌, ◌<◌, ◌≤◌, max, cond, ◌&&◌, ◌==◌, if◌then◌else◌}
use Rattle.crossbar.specs.Sums.{total, largest}
use Rattle.crossbar.specs.declared.port.Port.{Port}
use Rattle.crossbar.specs.declared.port.Port.TheVariants.{Input, Output}

-- d i j packets wait from input i to output j
abbrev pub Counts : Type 0
Counts = ℕ → ℕ → ℕ

abbrev pub nothing : Counts
nothing i j = 0

-- 1 at the pair of input a and output b, 0 at every other
abbrev pub single : ℕ → ℕ → Counts
single a b i j = cond (i == a && j == b) 1 0

-- one packet more from input a to output b
abbrev pub one_more : ℕ → ℕ → Counts → Counts
one_more a b d i j = d i j + single a b i j

-- k packets more from input a to output b
abbrev pub more : ℕ → ℕ → ℕ → Counts → Counts
more k a b d i j = d i j + k * single a b i j

-- one packet less from input a to output b, where one waits
abbrev pub one_less : ℕ → ℕ → Counts → Counts
one_less a b d i j = d i j - single a b i j

-- c packets from input a to output b, and all others as they are
abbrev pub with_count : ℕ → ℕ → ℕ → Counts → Counts
with_count c a b d i j = if i == a && j == b then c else d i j

-- the same packets with inputs and outputs exchanged
abbrev pub turned : Counts → Counts
turned d j i = d i j

-- the load of a port: all that waits at an input, or for an output
abbrev pub load : ℕ → Counts → Port → ℕ
load n d (Input i) = total n (λ j. d i j)
load n d (Output j) = total n (λ i. d i j)

-- the number of a port on its side
abbrev pub index : Port → ℕ
index (Input i) = i
index (Output j) = j

-- the largest of the 2n loads
unfoldable pub largest_load : ℕ → Counts → ℕ
largest_load n d = max (largest n (λ i. load n d (Input i))) (largest n (λ j. load n d (Output j)))

-- a port is critical if its load is the largest, and that is at least 1
pub record Critical (n : ℕ) (d : Counts) (p : Port) : Type 0 where
  pub within : index p < n
  pub most : load n d p ≡ largest_load n d
  pub busy : 1 ≤ largest_load n d

-- all packets that wait
abbrev pub packets : ℕ → Counts → ℕ
packets n d = total n (λ i. load n d (Input i))
