-- A search in its course: what it has reached so far.
use Rattle.std.specs.Prelude.{◌≡◌, ℕ, ◌+◌, ◌<◌, ◌≤◌, Bool, true, not}
use Rattle.mask.specs.Bits.{holds}
use Rattle.mask.specs.declared.Mask.{Mask}
use Rattle.policy.specs.Graphs.{Graph, Partners}
use Rattle.policy.specs.Picked.{count}
use Rattle.policy.specs.Paths.{Held, Tree}

-- q are the c outputs that were reached, and every packet of the first p inputs is for one of them
pub record Reach (n : ℕ) (d : Graph) (w : ℕ) (ins outs : ℕ → ℕ) (c : ℕ) (q : ℕ → Bool) (p : ℕ) : Type 0 where
  pub seen : (k : ℕ) → k < c → q (outs k) ≡ true
  pub listed : (j : ℕ) → j < n → q j ≡ true → (k : ℕ) × (k < c) × (outs k ≡ j)
  pub heavy : (k : ℕ) → k < c + 1 → w ≤ d.load (ins k)
  pub done : (k : ℕ) → k < p → (j : ℕ) → j < n → d.link (ins k) j ≡ true → q j ≡ true

-- what a search has seen is what it has not left unseen
abbrev pub seen : Mask → ℕ → Bool
seen unseen k = not (holds unseen k)

-- a search that has reached c outputs, all but those in `unseen`, and is done with the first p inputs
pub record Course (n : ℕ) (d : Graph) (s : Partners) (w : ℕ) (ins outs par : ℕ → ℕ) (unseen : Mask) (c p : ℕ) : Type 0 where
  pub inside : (k : ℕ) → holds unseen k ≡ true → k < n
  pub counted : c ≤ count n (seen unseen)
  pub tree : Tree n d s ins outs par c
  pub reach : Reach n d w ins outs c (seen unseen) p

-- a search in the row of ins p, which has packets for the outputs in `row`; of those that are unseen each is joined to an input of load w or more
pub record Row (n : ℕ) (d : Graph) (s : Partners) (w : ℕ) (row : Mask) (ins outs par : ℕ → ℕ) (unseen : Mask) (c p : ℕ) : Type 0 where
  pub low : p ≤ c
  pub course : Course n d s w ins outs par unseen c p
  pub packets : (j : ℕ) → j < n → holds row j ≡ d.link (ins p) j
  pub held : (j : ℕ) → holds unseen j ≡ true → holds row j ≡ true → Held n d s w j
