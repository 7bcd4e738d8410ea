-- What values of the crate's types mean.
use Rattle.std.specs.Prelude.{◌≡◌, ℕ, ◌+◌, Bool, not, ◌&&◌, List, [], ◌∷◌, ◌++◌, is_some, None, Option, MatchOption, nat_le, nat_lt, slice_index_or}
use Rattle.crossbar.specs.Arrays.{grid}
use Rattle.crossbar.specs.Clearing.{Lawful}
use Rattle.crossbar.specs.Joining.{Joins, pairs_below}
use Rattle.crossbar.specs.Loads.{Counts, load, largest_load}
use Rattle.crossbar.specs.Sides.{at_port}
use Rattle.crossbar.specs.declared.demand.Demand.{Demand}
use Rattle.crossbar.specs.declared.port.Pair.{Pair}
use Rattle.crossbar.specs.declared.port.Port.{Port}
use Rattle.crossbar.specs.declared.port.Port.TheVariants.{Input, Output}
use Rattle.crossbar.specs.declared.setting.Setting.{Setting}
use Rattle.crossbar.specs.declared.setting.pairs.Pairs.{Pairs}
use Rattle.crossbar.specs.declared.side.Side.{Side}
use Rattle.mask.specs.declared.Mask.{Mask}

-- a demand's number of ports, and what waits in it
abbrev pub size : Demand → ℕ
size d = d.ports.count

abbrev pub waiting : Demand → Counts
waiting d = grid d.ports.count d.counts

abbrev pub load_of : Demand → Port → ℕ
load_of d p = load (size d) (waiting d) p

abbrev pub largest_of : Demand → ℕ
largest_of d = largest_load (size d) (waiting d)

-- the pair is one of the n × n
abbrev pub has_pair : Demand → Pair → Bool
has_pair d p = nat_lt p.input (size d) && nat_lt p.output (size d)

-- there is room for one packet more: the pair is one of the n × n, and neither of its ports has its full load
abbrev pub has_room : ℕ → Demand → Pair → Bool
has_room bound d p = has_pair d p && nat_lt (load_of d (Input p.input)) bound && nat_lt (load_of d (Output p.output)) bound

-- there is room for k packets more: the pair is one of the n × n, and k more at either of its ports keep its load within the bound
abbrev pub has_room_for : ℕ → ℕ → Demand → Pair → Bool
has_room_for bound k d p = has_pair d p && nat_le (load_of d (Input p.input) + k) bound && nat_le (load_of d (Output p.output) + k) bound

-- a setting's input of each output, and its output of each input
abbrev pub input_at : Setting → Joins
input_at s j = slice_index_or s.inputs j None

abbrev pub output_at : Setting → ℕ → Option ℕ
output_at s i = slice_index_or s.outputs i None

-- the setting is lawful for the demand
abbrev pub IsLawful : Demand → Setting → Type 0
IsLawful d s = Lawful (size d) (waiting d) (input_at s)

-- a pair can be joined: both ports are below 16 and free
abbrev pub joinable : Setting → Pair → Bool
joinable s p =
    nat_lt p.input 16 && nat_lt p.output 16 && not (is_some (output_at s p.input)) && not (is_some (input_at s p.output))

-- an iterator over a setting's pairs that stands at output k has given those of the outputs below k
abbrev pub given_by : Pairs → List Pair
given_by p = pairs_below (input_at p.setting.now) p.output

-- one call of that iterator: the next pair in order, or none where every pair has been given, and then it stays so
abbrev pub NextPair : Pairs → Option Pair → Pairs → Type 0
NextPair p r q =
    (q.setting.now ≡ p.setting.now)
    × MatchOption r ((given_by p ≡ pairs_below (input_at p.setting.now) 16) × (given_by q ≡ given_by p)) (λ x. given_by q ≡ given_by p ++ x ∷ [])

-- the load of a port of one side of a demand
abbrev pub load_at : Side → ℕ → ℕ
load_at s k = (at_port s.at.now k).load

-- the ports of the other side that a port has packets with
abbrev pub links_at : Side → ℕ → Mask
links_at s k = (at_port s.at.now k).links
