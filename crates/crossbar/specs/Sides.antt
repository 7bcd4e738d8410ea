-- What waits at the ports of one side, the inputs or the outputs. Said of inputs; for outputs, of the demand turned.
use Rattle.std.specs.Prelude.{◌≡◌, ℕ, List, length, nat_lt, slice_index_or}
use Rattle.crossbar.specs.Loads.{Counts, load}
use Rattle.crossbar.specs.declared.port.Port.TheVariants.{Input}
use Rattle.crossbar.specs.declared.side.PortLoad.{PortLoad}
use Rattle.mask.specs.Bits.{holds}

-- nothing waits at a port
abbrev pub idle : PortLoad
idle = record { load = 0; links = record { bits = 0 } }

-- what waits at port k, and nothing at a port that is not there
abbrev pub at_port : List PortLoad → ℕ → PortLoad
at_port ports k = slice_index_or ports k idle

-- of each port of a side its load by the counts d, and the ports of the other side that it has packets with
pub record Tells (n : ℕ) (ports : List PortLoad) (d : Counts) : Type 0 where
  pub sixteen : length ports ≡ 16
  pub loads : (k : ℕ) → (at_port ports k).load ≡ load n d (Input k)
  pub marks : (i j : ℕ) → holds (at_port ports i).links j ≡ nat_lt 0 (d i j)
