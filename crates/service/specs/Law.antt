-- The law of a stretch of service: what holds of every history that comes about on a switch in service.
use Rattle.std.specs.Prelude.{◌≡◌, ℕ, suc, ◌+◌, ◌-◌, ◌*◌, ◌≤◌, min, false, cond, List, [], ◌∷◌, ◌++◌, map, length}
use Rattle.crossbar.specs.Clearing.{NoFewer}
use Rattle.crossbar.specs.Joining.{pairs_below}
use Rattle.crossbar.specs.Loads.{largest_load, packets}
use Rattle.crossbar.specs.declared.port.Pair.{Pair}
use Rattle.service.specs.Histories.{Event, offer, group, trial, slot, question, History, is_done, slots, period, within, left_of, of_period, before_period, of_all, departed, period_demand, due, gathering, clearing, last_departure, taken, sent}
use Rattle.service.specs.Tables.{verdict, late, slot_reply, told}
use Rattle.service.specs.declared.entry.Entry.{Entry}

module _ {T : Type 0} where
  -- the reply of an event after h is the one that the table names for what h tells
  abbrev pub ByTable : ℕ → ℕ → History T → Event T → Type 0
  ByTable n l h (offer e r) = r ≡ verdict n l (gathering l h) 0 (e ∷ [])
  ByTable n l h (group es r) = r ≡ verdict n l (gathering l h) 0 es
  ByTable n l h (trial es r) = r ≡ verdict n l (gathering l h) 0 es
  ByTable n l h (slot room s ds r) = r ≡ slot_reply n (left_of l h) (clearing l h) room (length ds)
  ByTable n l h (question q r) = r ≡ told n (left_of l h) (gathering l h) (clearing l h) q

  abbrev pub Replied : ℕ → ℕ → History T → Type 0
  Replied n l [] = Unit {0}
  Replied n l (e ∷ h) = ByTable n l h e

  abbrev pub pairs_of : List (Entry T) → List Pair
  pairs_of = map (λ (e : Entry T). e.pair)

  -- the records of a done slot are one for each pair of its setting, in order of output; a refused one writes none
  abbrev pub Recorded : ℕ → Event T → Type 0
  Recorded n (offer e r) = Unit {0}
  Recorded n (group es r) = Unit {0}
  Recorded n (trial es r) = Unit {0}
  Recorded n (slot room s ds r) = pairs_of ds ≡ cond (is_done r) (pairs_below s n) []
  Recorded n (question q r) = Unit {0}

  abbrev pub Written : ℕ → History T → Type 0
  Written n [] = Unit {0}
  Written n (e ∷ h) = Recorded n e

  -- what period k + 1 has to clear has left, in exactly as many slots as its largest load
  pub record Cleared (n l k : ℕ) (h : History T) : Type 0 where
    pub exactly : last_departure l (suc k) h ≡ largest_load n (period_demand l k h)
    pub left_all : (i j : ℕ) → (w : List T) × (departed h i j ≡ before_period l (suc k) h i j ++ w)

  -- of a pair the departures are the first of what was accepted before this period, the older rest waits, and the packets of this period come last
  pub record Waits (l : ℕ) (h : History T) (i j : ℕ) : Type 0 where
    pub older : List T
    pub clearing_is : before_period l (period l h) h i j ≡ departed h i j ++ older
    pub waiting_is : of_all l h i j ≡ departed h i j ++ (older ++ of_period l (period l h) h i j)

  -- what holds at the moment after h
  pub record Moment (n l : ℕ) (h : History T) : Type 0 where
    -- the newest reply is the one that the table names for the history before it
    pub replies : Replied n l h
    -- a slot would not be refused now for packets that are left over
    pub in_time : late n (left_of l h) (clearing l h) ≡ false
    -- the records of a slot are the pairs of its setting, in order of output
    pub records : Written n h
    -- no load of a period is above its slots
    pub bounded : (k : ℕ) → largest_load n (due l k h) ≤ l
    -- each slot of a period lowers the largest load that is due in it by one, until nothing is left
    pub falling : largest_load n (clearing l h) ≡ largest_load n (due l (period l h) h) - within l h
    -- packets leave in just the first slots of a period, as many as the largest load that is due in it
    pub steady : (k : ℕ) → last_departure l k h ≡ min (slots h - k * l) (largest_load n (due l k h))
    -- once an ended period has had as many slots since as its largest load, it is cleared, in exactly so many
    pub clears : (k : ℕ) → suc k * l + largest_load n (period_demand l k h) ≤ slots h → Cleared n l k h
    -- no list of settings clears it in fewer
    pub optimal : (k : ℕ) → NoFewer n (period_demand l k h) (largest_load n (period_demand l k h))
    -- of each pair the departures are the first of the accepted, in order; the rest wait
    pub in_order : (i j : ℕ) → Waits l h i j
    -- while no slot of this period is done, so at each turn, just what was accepted before the last period began has left
    pub at_turn : within l h ≡ 0 → (i j : ℕ) → departed h i j ≡ before_period l (period l h - 1) h i j
    -- nothing is lost or made up: what was accepted, as replies count it, has departed or waits
    pub conserved : taken h ≡ sent h + packets n (λ i j. gathering l h i j + clearing l h i j)

  -- the law of a stretch of service: so it was at every moment of it
  abbrev pub Law : ℕ → ℕ → History T → Type 0
  Law n l [] = Moment n l []
  Law n l (e ∷ h) = Moment n l (e ∷ h) × Law n l h
