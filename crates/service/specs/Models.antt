-- A switch in service as a model, what one call does to it, and what a history tells of it.
use Rattle.std.specs.Prelude.{◌≡◌, ℕ, zero, suc, ◌+◌, ◌<◌, ◌≤◌, ◌⊎◌, List, [], ◌∷◌, ◌++◌, map, length, take, drop, Some, None, MatchBool, Option, ◌==◌}
use Rattle.crossbar.specs.Clearing.{Lawful}
use Rattle.crossbar.specs.Joining.{Joins, joined}
use Rattle.crossbar.specs.Loads.{Counts}
use Rattle.service.specs.Histories.{Event, offer, group, trial, slot, question, History, is_done, of_pair, of_period, before_period, departed, period, left_of}
use Rattle.service.specs.Law.{Law}
use Rattle.service.specs.Tables.{verdict, slot_reply, told}
use Rattle.service.specs.declared.entry.Entry.{Entry}

-- a queue for each pair, oldest first
abbrev pub Queues : Type 0 → Type 0
Queues T = ℕ → ℕ → List T

pub record Model (T : Type 0) : Type 0 where
  pub gathering : Queues T
  pub clearing : Queues T
  pub left : ℕ

module _ {T : Type 0} where
  abbrev pub counts : Queues T → Counts
  counts q i j = length (q i j)

  -- a switch that was just made
  abbrev pub made : ℕ → Model T
  made l = record { gathering = λ i j. []; clearing = λ i j. []; left = l }

  -- the records of a setting: of each joined pair the oldest packet, in order of output
  abbrev pub record_at : Option ℕ → ℕ → Queues T → List (Entry T)
  record_at None j q = []
  record_at (Some i) j q = map (λ x. record { pair = record { input = i; output = j }; packet = x }) (take 1 (q i j))

  abbrev pub records_of : ℕ → Joins → Queues T → List (Entry T)
  records_of zero s q = []
  records_of (suc n) s q = records_of n s q ++ record_at (s n) n q

  -- a switch of n ports has no packet at a port from n on
  pub record Ported (n : ℕ) (m : Model T) : Type 0 where
    pub no_gathering : (i j : ℕ) → (n ≤ i) ⊎ (n ≤ j) → m.gathering i j ≡ []
    pub no_clearing : (i j : ℕ) → (n ≤ i) ⊎ (n ≤ j) → m.clearing i j ≡ []

  -- entries join the gathering queues, and nothing else changes
  pub record JoinedQueues (n : ℕ) (m : Model T) (es : List (Entry T)) (m' : Model T) : Type 0 where
    pub gathers : (i j : ℕ) → i < n → j < n → m'.gathering i j ≡ m.gathering i j ++ of_pair i j es
    pub clears : (i j : ℕ) → i < n → j < n → m'.clearing i j ≡ m.clearing i j
    pub stays : m'.left ≡ m.left

  -- of each joined pair the oldest packet leaves, and nothing else changes but the slots left
  pub record LeftQueues (n : ℕ) (m : Model T) (s : Joins) (m' : Model T) : Type 0 where
    pub gathers : (i j : ℕ) → i < n → j < n → m'.gathering i j ≡ m.gathering i j
    pub clears : (i j : ℕ) → i < n → j < n → m'.clearing i j ≡ drop (joined s i j) (m.clearing i j)
    pub falls : m'.left + 1 ≡ m.left

  -- the period turns: what gathered is to be cleared
  pub record Turns (n l : ℕ) (m m' : Model T) : Type 0 where
    pub gathers : (i j : ℕ) → i < n → j < n → m'.gathering i j ≡ []
    pub clears : (i j : ℕ) → i < n → j < n → m'.clearing i j ≡ m.gathering i j
    pub again : m'.left ≡ l

  -- a done slot by the setting s: lawful, its records written, and the period turns with its last slot
  pub record SlotServed (n l : ℕ) (m : Model T) (s : Joins) (ds : List (Entry T)) (m' : Model T) : Type 0 where
    pub lawful : Lawful n (counts m.clearing) s
    pub written : ds ≡ records_of n s m.clearing
    pub next : MatchBool (m.left == 1) (Turns n l m m') (LeftQueues n m s m')

  -- what one call does in service: its reply by the table, and the model after it
  abbrev pub Step : ℕ → ℕ → Model T → Event T → Model T → Type 0
  Step n l m (offer e r) m' = (r ≡ verdict n l (counts m.gathering) 0 (e ∷ [])) × MatchBool (is_done r) (JoinedQueues n m (e ∷ []) m') (m' ≡ m)
  Step n l m (group es r) m' = (r ≡ verdict n l (counts m.gathering) 0 es) × MatchBool (is_done r) (JoinedQueues n m es m') (m' ≡ m)
  Step n l m (trial es r) m' = (r ≡ verdict n l (counts m.gathering) 0 es) × (m' ≡ m)
  Step n l m (slot room s ds r) m' =
      (r ≡ slot_reply n m.left (counts m.clearing) room (length ds)) × MatchBool (is_done r) (SlotServed n l m s ds m') ((ds ≡ []) × (m' ≡ m))
  Step n l m (question q r) m' = (r ≡ told n m.left (counts m.gathering) (counts m.clearing) q) × (m' ≡ m)

  -- A stretch of service: the model is what the history tells, and the law holds of the history.
  pub record Stretch (n l : ℕ) (h : History T) (m : Model T) : Type 0 where
    pub some_ports : (1 ≤ n) × (n ≤ 16)
    pub some_slots : (1 ≤ l) × (l ≤ 1024)
    pub gathers : (i j : ℕ) → m.gathering i j ≡ of_period l (period l h) h i j
    pub clears : (i j : ℕ) → departed h i j ++ m.clearing i j ≡ before_period l (period l h) h i j
    pub remains : m.left ≡ left_of l h
    pub law : Law n l h
