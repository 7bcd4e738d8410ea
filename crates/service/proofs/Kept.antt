-- What is kept from event to event, told by a period, a place in it, and what was accepted and has left.
use Rattle.std.proofs.Common.{◌≡◌, ℕ, zero, suc, ◌+◌, ◌-◌, ◌<◌, ◌≤◌, min, Bool, true, eqb, ltb, ◌⊎◌, List, [], ◌++◌, length}
use Rattle.crossbar.specs.Loads.{Counts, largest_load}
use Rattle.service.specs.Models.{Queues, Model, counts}

module _ {T : Type 0} where
  -- the demand that period k has to clear: that of the period before it
  abbrev pub due_by : ((ℕ → Bool) → Queues T) → ℕ → Counts
  due_by acc zero i j = 0
  due_by acc (suc k) i j = length (acc (λ q. eqb q k) i j)

  -- what holds in period p after r of its l slots, where acc tells the packets accepted in the periods that a test picks,
  -- dep those that have left, and last the last departure of each period
  pub record Kept (n l p r : ℕ) (acc : (ℕ → Bool) → Queues T) (dep : Queues T) (last : ℕ → ℕ) (m : Model T) : Type 0 where
    pub going : r < l
    -- the model is what the history tells
    pub gathers : (i j : ℕ) → m.gathering i j ≡ acc (λ q. eqb q p) i j
    pub clears : (i j : ℕ) → dep i j ++ m.clearing i j ≡ acc (λ q. ltb q p) i j
    pub left_is : m.left + r ≡ l
    -- nothing was accepted in a later period, and periods come in order
    pub none_yet : (k : ℕ) → p < k → (i j : ℕ) → acc (λ q. eqb q k) i j ≡ []
    pub all_by : (k : ℕ) → p < k → (i j : ℕ) → acc (λ q. ltb q k) i j ≡ acc (λ q. true) i j
    pub parts : (i j : ℕ) → acc (λ q. ltb q p) i j ++ acc (λ q. eqb q p) i j ≡ acc (λ q. true) i j
    pub outside : (i j : ℕ) → (n ≤ i) ⊎ (n ≤ j) → (m.gathering i j ≡ []) × (m.clearing i j ≡ [])
    -- no period has more than its slots can clear, and each slot lowers what is due by one
    pub bound : (k : ℕ) → largest_load n (due_by acc k) ≤ l
    pub falling : largest_load n (counts m.clearing) ≡ largest_load n (due_by acc p) - r
    pub last_past : (k : ℕ) → k < p → last k ≡ largest_load n (due_by acc k)
    pub last_now : last p ≡ min r (largest_load n (due_by acc p))
    pub last_next : (k : ℕ) → p < k → last k ≡ 0
    -- what was due before has left
    pub gone : (k : ℕ) → k < p → (i j : ℕ) → (w : List T) × (dep i j ≡ acc (λ q. ltb q k) i j ++ w)
    pub turned : r ≡ 0 → (i j : ℕ) → dep i j ≡ acc (λ q. ltb q (p - 1)) i j
