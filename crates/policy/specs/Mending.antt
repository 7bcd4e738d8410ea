-- What mending a setting for a demand gives.
use Rattle.std.specs.Prelude.{◌≡◌, ℕ, ◌≤◌, cond, length, Some, None, Option, nat_lt}
use Rattle.crossbar.specs.Clearing.{Lawful}
use Rattle.crossbar.specs.Joining.{Joins, pairs_below}
use Rattle.crossbar.specs.Loads.{Counts}

-- the input of output j, where a packet waits from it to j
abbrev pub if_waiting : Counts → ℕ → Option ℕ → Option ℕ
if_waiting d j None = None
if_waiting d j (Some i) = cond (nat_lt 0 (d i j)) (Some i) None

-- the pairs of a setting that have a packet
abbrev pub with_packets : Counts → Joins → Joins
with_packets d s j = if_waiting d j (s j)

-- how many pairs a setting joins
abbrev pub pair_count : Joins → ℕ
pair_count s = length (pairs_below s 16)

-- r is s mended: it is lawful, joins at least as many pairs as s joins with a packet, and is s itself where that was lawful
pub record Mends (n : ℕ) (d : Counts) (s r : Joins) : Type 0 where
  pub lawful : Lawful n d r
  pub pairs : pair_count (with_packets d s) ≤ pair_count r
  pub same : Lawful n d s → r ≡ s
