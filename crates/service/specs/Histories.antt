-- What happened to one switch, call by call, and what is told from it.
use Rattle.std.specs.Prelude.{◌≡◌, ℕ, zero, suc, ◌+◌, ◌-◌, ◌/◌, ◌%◌, Bool, true, false, cond, ◌&&◌, List, [], ◌∷◌, ◌++◌, length, ◌==◌, nat_eq, nat_lt}
use Rattle.crossbar.specs.Joining.{Joins}
use Rattle.crossbar.specs.Loads.{Counts}
use Rattle.reply.specs.Answers.{Answer, done, refused, place_of}
use Rattle.service.specs.declared.entry.Entry.{Entry}
use Rattle.service.specs.declared.question.Question.{Question}

abbrev pub is_done : Answer → Bool
is_done (done place) = true
is_done (refused reason place) = false

-- A call with its reply. Of a slot: how many records its list has room for, the setting of its policy, and the records written.
pub data Event (T : Type 0) : Type 0 where
  offer : Entry T → Answer → Event T
  group : List (Entry T) → Answer → Event T
  trial : List (Entry T) → Answer → Event T
  slot : ℕ → Joins → List (Entry T) → Answer → Event T
  question : Question → Answer → Event T

-- all calls on one switch since it was made, the newest first
abbrev pub History : Type 0 → Type 0
History T = List (Event T)

module _ {T : Type 0} where
  -- the packets from input i to output j among some entries
  abbrev pub of_pair : ℕ → ℕ → List (Entry T) → List T
  of_pair i j [] = []
  of_pair i j (e ∷ es) = cond (i == e.pair.input && j == e.pair.output) (e.packet ∷ []) [] ++ of_pair i j es

  -- the packets of a pair that one event accepted
  abbrev pub accepts : Event T → ℕ → ℕ → List T
  accepts (offer e r) i j = cond (is_done r) (of_pair i j (e ∷ [])) []
  accepts (group es r) i j = cond (is_done r) (of_pair i j es) []
  accepts (trial es r) i j = []
  accepts (slot room s ds r) i j = []
  accepts (question q r) i j = []

  -- the packets of a pair that left by one event
  abbrev pub departs : Event T → ℕ → ℕ → List T
  departs (offer e r) i j = []
  departs (group es r) i j = []
  departs (trial es r) i j = []
  departs (slot room s ds r) i j = cond (is_done r) (of_pair i j ds) []
  departs (question q r) i j = []

  abbrev pub slot_done : Event T → Bool
  slot_done (offer e r) = false
  slot_done (group es r) = false
  slot_done (trial es r) = false
  slot_done (slot room s ds r) = is_done r
  slot_done (question q r) = false

  -- the slots done so far
  abbrev pub slots : History T → ℕ
  slots [] = 0
  slots (e ∷ h) = slots h + cond (slot_done e) 1 0

  -- the period, from 0, that the next event falls in, where a period has l slots; and the slots done in it
  abbrev pub period : ℕ → History T → ℕ
  period l h = slots h / l

  abbrev pub within : ℕ → History T → ℕ
  within l h = slots h % l

  -- the slots left of this period
  abbrev pub left_of : ℕ → History T → ℕ
  left_of l h = l - within l h

  -- the packets of a pair that were accepted in the periods that a test picks, in order
  abbrev pub accepted : ℕ → (ℕ → Bool) → History T → ℕ → ℕ → List T
  accepted l p [] i j = []
  accepted l p (e ∷ h) i j = accepted l p h i j ++ cond (p (period l h)) (accepts e i j) []

  abbrev pub of_period : ℕ → ℕ → History T → ℕ → ℕ → List T
  of_period l k = accepted l (λ q. nat_eq q k)

  abbrev pub before_period : ℕ → ℕ → History T → ℕ → ℕ → List T
  before_period l k = accepted l (λ q. nat_lt q k)

  abbrev pub of_all : ℕ → History T → ℕ → ℕ → List T
  of_all l = accepted l (λ q. true)

  -- the packets of a pair that have left, in order
  abbrev pub departed : History T → ℕ → ℕ → List T
  departed [] i j = []
  departed (e ∷ h) i j = departed h i j ++ departs e i j

  -- the demand of a period: its packets, counted by pair
  abbrev pub period_demand : ℕ → ℕ → History T → Counts
  period_demand l k h i j = length (of_period l k h i j)

  -- the demand that period k has to clear: that of the period before it, and for the first period nothing
  abbrev pub due : ℕ → ℕ → History T → Counts
  due l zero h i j = 0
  due l (suc k) h i j = period_demand l k h i j

  -- what gathers: the packets accepted in this period; what clears: the others that wait
  abbrev pub gathering : ℕ → History T → Counts
  gathering l h = period_demand l (period l h) h

  abbrev pub clearing : ℕ → History T → Counts
  clearing l h i j = length (before_period l (period l h) h i j) - length (departed h i j)

  -- an event by which a packet left
  abbrev pub some_left : Event T → Bool
  some_left (offer e r) = false
  some_left (group es r) = false
  some_left (trial es r) = false
  some_left (slot room s [] r) = false
  some_left (slot room s (d ∷ ds) r) = is_done r
  some_left (question q r) = false

  -- the place within period k, from 1, of its last done slot by which a packet left; 0 without one
  abbrev pub last_departure : ℕ → ℕ → History T → ℕ
  last_departure l k [] = 0
  last_departure l k (e ∷ h) = cond (period l h == k && some_left e) (suc (within l h)) (last_departure l k h)

  -- a period has just turned: the switch was made, or the newest event is the done slot that ended a period
  abbrev pub Turned : ℕ → History T → Type 0
  Turned l [] = Unit {0}
  Turned l (e ∷ h) = (slot_done e ≡ true) × (within l (e ∷ h) ≡ 0)

  -- how many packets the reply of an event counts as accepted, and how many records a done slot has
  abbrev pub counted_in : Event T → ℕ
  counted_in (offer e r) = cond (is_done r) (place_of r) 0
  counted_in (group es r) = cond (is_done r) (place_of r) 0
  counted_in (trial es r) = 0
  counted_in (slot room s ds r) = 0
  counted_in (question q r) = 0

  abbrev pub counted_out : Event T → ℕ
  counted_out (offer e r) = 0
  counted_out (group es r) = 0
  counted_out (trial es r) = 0
  counted_out (slot room s ds r) = cond (is_done r) (length ds) 0
  counted_out (question q r) = 0

  -- packets accepted, as replies count them, and packets departed, as the records of done slots count them
  abbrev pub taken : History T → ℕ
  taken [] = 0
  taken (e ∷ h) = taken h + counted_in e

  abbrev pub sent : History T → ℕ
  sent [] = 0
  sent (e ∷ h) = sent h + counted_out e

  -- the replies to offers, groups and trials, the newest first
  abbrev pub answers : History T → List Answer
  answers [] = []
  answers (offer e r ∷ h) = r ∷ answers h
  answers (group es r ∷ h) = r ∷ answers h
  answers (trial es r ∷ h) = r ∷ answers h
  answers (slot room s ds r ∷ h) = answers h
  answers (question q r ∷ h) = answers h

  -- two events are the same call; of a slot only the room in its list counts
  pub data SameCall : Event T → Event T → Type 0 where
    offers : {e : Entry T} {r r' : Answer} → SameCall (offer e r) (offer e r')
    groups : {es : List (Entry T)} {r r' : Answer} → SameCall (group es r) (group es r')
    trials : {es : List (Entry T)} {r r' : Answer} → SameCall (trial es r) (trial es r')
    slots_of : {room : ℕ} {s s' : Joins} {ds ds' : List (Entry T)} {r r' : Answer} → SameCall (slot room s ds r) (slot room s' ds' r')
    questions : {q : Question} {r r' : Answer} → SameCall (question q r) (question q r')

  pub data SameCalls : History T → History T → Type 0 where
    none : SameCalls [] []
    more : {e e' : Event T} {h h' : History T} → SameCall e e' → SameCalls h h' → SameCalls (e ∷ h) (e' ∷ h')
