-- The tree of a search along alternating paths, and what mending along one of its paths gives.
use Rattle.std.specs.Prelude.{◌≡◌, ℕ, ◌+◌, ◌<◌, ◌≤◌, true, false, ◌≢◌}
use Rattle.mask.specs.Bits.{holds}
use Rattle.mask.specs.declared.Mask.{Mask}
use Rattle.policy.specs.Graphs.{Graph, Partners, Keeps, InJoined, OutJoined}

-- The first c outputs that a search from ins 0 reached, in their order: outs k is joined to ins (k + 1), and was reached by a packet of ins (par k).
pub record Tree (n : ℕ) (d : Graph) (s : Partners) (ins outs par : ℕ → ℕ) (c : ℕ) : Type 0 where
  pub root : ins 0 < n
  pub unjoined : (j : ℕ) → j < n → s j ≢ ins 0
  pub within : (k : ℕ) → k < c → outs k < n
  pub joined : (k : ℕ) → k < c → s (outs k) < n
  pub next : (k : ℕ) → k < c → s (outs k) ≡ ins (k + 1)
  pub apart : (j k : ℕ) → j < c → k < c → outs j ≡ outs k → j ≡ k
  pub earlier : (k : ℕ) → k < c → par k ≤ k
  pub packet : (k : ℕ) → k < c → d.link (ins (par k)) (outs k) ≡ true

-- An output that ends a path: a packet of ins at is for it, and it is free or its input has a load below w.
pub record Ending (n : ℕ) (d : Graph) (s : Partners) (w : ℕ) (ins outs : ℕ → ℕ) (c at output : ℕ) : Type 0 where
  pub low : at ≤ c
  pub within : output < n
  pub packet : d.link (ins at) output ≡ true
  pub fresh : (k : ℕ) → k < c → outs k ≢ output
  pub spare : (s output < n) → d.load (s output) < w

-- t joins every output that s joins, and every input of load w or more that s joins
pub record Grown (n : ℕ) (d : Graph) (s : Partners) (w : ℕ) (t : Partners) : Type 0 where
  pub keeps : Keeps n d t
  pub outputs : (j : ℕ) → j < n → OutJoined n s j → OutJoined n t j
  pub inputs : (i : ℕ) → i < n → w ≤ d.load i → InJoined n s i → InJoined n t i

-- t is grown from s, and joins `start` too
pub record Mended (n : ℕ) (d : Graph) (s : Partners) (w start : ℕ) (t : Partners) : Type 0 where
  pub grown : Grown n d s w t
  pub start_joined : InJoined n t start

-- every input of load w or more is joined
abbrev pub Full : ℕ → Graph → ℕ → Partners → Type 0
Full n d w s = (i : ℕ) → i < n → w ≤ d.load i → InJoined n s i

-- the output j is joined to an input of load w or more
abbrev pub Held : ℕ → Graph → Partners → ℕ → ℕ → Type 0
Held n d s w j = (s j < n) × (w ≤ d.load (s j))

-- m is the set of the outputs that are free or joined to an input of load below w
pub record Spare (n : ℕ) (d : Graph) (s : Partners) (w : ℕ) (m : Mask) : Type 0 where
  pub held : (j : ℕ) → j < n → holds m j ≡ false → Held n d s w j
  pub free : (j : ℕ) → j < n → holds m j ≡ true → Held n d s w j → ⊥

-- t holds the output `end`, and of the others those that s holds
pub record Holds (n : ℕ) (d : Graph) (s : Partners) (w end : ℕ) (t : Partners) : Type 0 where
  pub ended : Held n d t w end
  pub forth : (j : ℕ) → j < n → (j ≢ end) → Held n d s w j → Held n d t w j
  pub back : (j : ℕ) → j < n → (j ≢ end) → Held n d t w j → Held n d s w j
