-- A packet that is not refused has room, and keeps every load within the bound.
use Rattle.std.proofs.Common.{◌≡◌, ℕ, ◌<◌, ◌≤◌, true, None, arith}
use Rattle.std.proofs.lemmas.Grind.{common_steps}
use Rattle.crossbar.proofs.Loads.{more_within}
use Rattle.crossbar.specs.Loads.{Counts, load, one_more}
use Rattle.crossbar.specs.Models.{has_room, largest_of, size, waiting}
use Rattle.crossbar.specs.declared.demand.Demand.{Demand}
use Rattle.crossbar.specs.declared.port.Pair.{Pair}
use Rattle.crossbar.specs.declared.port.Port.TheVariants.{Input, Output}
use Rattle.batch.specs.Rules.{refusal}

-- what the tests of a packet that is taken tell
pub record Taken (n bound : ℕ) (c : Counts) (p : Pair) : Type 0 where
  pub input : p.input < n
  pub output : p.output < n
  pub at_input : load n c (Input p.input) < bound
  pub at_output : load n c (Output p.output) < bound

pub taken : (n bound : ℕ) (c : Counts) (p : Pair) → refusal n bound c p ≡ None → Taken n bound c p
taken n bound c p e = grind (arith, common_steps)

-- a bound of at most 1,024 leaves room in the demand
pub room : (bound : ℕ) (d : Demand) (p : Pair) → bound ≤ 1024 → Taken (size d) bound (waiting d) p → has_room 1024 d p ≡ true
room bound d p most t = grind (arith, common_steps)

-- the demand with the packet stays within the bound
pub stays_within : (bound : ℕ) (d e : Demand) (p : Pair) → Taken (size d) bound (waiting d) p → largest_of d ≤ bound → e.ports ≡ d.ports → waiting e ≡ one_more p.input p.output (waiting d) → largest_of e ≤ bound
stays_within bound d e p t within ports after = grind (arith, more_within)
