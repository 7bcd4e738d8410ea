-- One side of a demand as a graph, and settings as partners. Said of inputs and outputs; of the other side, exchange the two words.
use Rattle.std.specs.Prelude.{◌≡◌, ℕ, ◌<◌, ◌≤◌, Bool, true, Some, ◌≢◌, nat_lt}
use Rattle.std.specs.Option.{unwrap_or}
use Rattle.crossbar.specs.Joining.{IsSetting, Joins}
use Rattle.crossbar.specs.Loads.{Counts, load}
use Rattle.crossbar.specs.Models.{links_at, load_at}
use Rattle.crossbar.specs.declared.port.Port.TheVariants.{Input}
use Rattle.crossbar.specs.declared.side.Side.{Side}
use Rattle.mask.specs.Bits.{holds}

-- link i j: input i has packets for output j; load i: how many wait at input i
pub record Graph : Type 0 where
  pub link : ℕ → ℕ → Bool
  pub load : ℕ → ℕ

-- the graph of one side of a demand
abbrev pub graph_of : Side → Graph
graph_of side = record { link = λ i j. holds (links_at side i) j; load = λ i. load_at side i }

-- a setting of n inputs and n outputs, each joined pair of which has a packet
pub record Fits (n : ℕ) (d : Graph) (s : Joins) : Type 0 where
  pub setting : IsSetting n s
  pub packet : (i j : ℕ) → s j ≡ Some i → d.link i j ≡ true

-- each output's input, or a number that is none (n or more)
abbrev pub Partners : Type 0
Partners = ℕ → ℕ

-- the partners that a setting joins; no crossbar has an input 16
abbrev pub partners : Joins → Partners
partners s j = unwrap_or (s j) 16

abbrev pub OutJoined : ℕ → Partners → ℕ → Type 0
OutJoined n s j = s j < n

abbrev pub InJoined : ℕ → Partners → ℕ → Type 0
InJoined n s i = (j : ℕ) × (j < n) × (s j ≡ i)

-- no input is joined to two outputs
abbrev pub Once : ℕ → Partners → Type 0
Once n s = (j k : ℕ) → j < n → k < n → s j < n → s j ≡ s k → j ≡ k

-- no input is joined twice, and each joined pair has a packet
pub record Keeps (n : ℕ) (d : Graph) (s : Partners) : Type 0 where
  pub once : Once n s
  pub packet : (j : ℕ) → j < n → s j < n → d.link (s j) j ≡ true

-- A search for a place for the input `start` that has ended without one: q are the outputs that it reached.
-- Each of them is joined, to an input of load w or more, and all packets of those inputs and of `start` are for outputs in q.
pub record Stuck (n : ℕ) (d : Graph) (s : Partners) (w start : ℕ) (q : ℕ → Bool) : Type 0 where
  pub within : start < n
  pub unjoined : (j : ℕ) → j < n → s j ≢ start
  pub heavy : w ≤ d.load start
  pub first : (k : ℕ) → k < n → d.link start k ≡ true → q k ≡ true
  pub joined : (j : ℕ) → j < n → q j ≡ true → s j < n
  pub heavies : (j : ℕ) → j < n → q j ≡ true → w ≤ d.load (s j)
  pub next : (j k : ℕ) → j < n → k < n → q j ≡ true → d.link (s j) k ≡ true → q k ≡ true

-- e is d seen from the other side
abbrev pub Turned : ℕ → Graph → Graph → Type 0
Turned n d e = (i j : ℕ) → i < n → j < n → e.link j i ≡ d.link i j

-- the graph d is that of the counts c
pub record Weighs (n : ℕ) (d : Graph) (c : Counts) : Type 0 where
  pub links : (i j : ℕ) → i < n → j < n → d.link i j ≡ nat_lt 0 (c i j)
  pub loads : (i : ℕ) → i < n → d.load i ≡ load n c (Input i)
