-- What one call does, at every pair of numbers.
use Rattle.std.proofs.Common.{◌≡◌, ℕ, zero, suc, ◌+◌, ◌<◌, ◌≤◌, Bool, true, false, eqb, ◌⊎◌, List, [], ◌∷◌, ◌++◌, length, drop, MatchBool, sym, refl, ap, ◌∙◌, inl, inr}
use mathlib.Core.Path.{fun_ext}
use Rattle.std.proofs.lemmas.Bool.{cases_lt}
use Rattle.crossbar.specs.Clearing.{Lawful}
use Rattle.crossbar.specs.Joining.{Joins, joined}
use Rattle.reply.specs.Answers.{Answer}
use Rattle.service.specs.Histories.{Event, offer, group, trial, slot, question, is_done, of_pair}
use Rattle.service.specs.Models.{Model, counts, records_of, Ported, JoinedQueues, LeftQueues, Turns, SlotServed, Step}
use Rattle.service.specs.Tables.{verdict, slot_reply, told}
use Rattle.service.specs.declared.entry.Entry.{Entry}
use Rattle.service.proofs.Verdicts.{inside_done, none_outside}

each : (n i j : ℕ) {P : Type 0} → (i < n → j < n → P) → ((n ≤ i) ⊎ (n ≤ j) → P) → P
each n i j {P} f g = elim (cases_lt i n) [ inl a ↦ elim (cases_lt j n) [ inl b ↦ f a b | inr b ↦ g (inr b) ] | inr a ↦ g (inl a) ]

when_map : (b : Bool) (P P' Q : Type 0) → (b ≡ true → P → P') → MatchBool b P Q → MatchBool b P' Q
when_map true P P' Q f h = f refl h
when_map false P P' Q f h = h

when_both : (b : Bool) (P P' Q Q' : Type 0) → (P → P') → (Q → Q') → MatchBool b P Q → MatchBool b P' Q'
when_both true P P' Q Q' f g h = f h
when_both false P P' Q Q' f g h = g h

module _ {T : Type 0} where
  -- entries join the gathering queues
  pub record JoinedAll (m : Model T) (es : List (Entry T)) (m' : Model T) : Type 0 where
    pub gathers : (i j : ℕ) → m'.gathering i j ≡ m.gathering i j ++ of_pair i j es
    pub clears : m'.clearing ≡ m.clearing
    pub stays : m'.left ≡ m.left

  -- the heads of the joined pairs leave
  pub record LeftAll (m : Model T) (s : Joins) (m' : Model T) : Type 0 where
    pub gathers : m'.gathering ≡ m.gathering
    pub clears : (i j : ℕ) → m'.clearing i j ≡ drop (joined s i j) (m.clearing i j)
    pub falls : m'.left + 1 ≡ m.left

  -- the period turns
  pub record TurnsAll (l : ℕ) (m m' : Model T) : Type 0 where
    pub gathers : (i j : ℕ) → m'.gathering i j ≡ []
    pub clears : m'.clearing ≡ m.gathering
    pub again : m'.left ≡ l

  -- a done slot
  pub record SlotAll (n l : ℕ) (m : Model T) (s : Joins) (ds : List (Entry T)) (m' : Model T) : Type 0 where
    pub lawful : Lawful n (counts m.clearing) s
    pub written : ds ≡ records_of n s m.clearing
    pub next : MatchBool (eqb m.left 1) (TurnsAll l m m') (LeftAll m s m')

  -- what the contract of one call gives
  abbrev pub StepAll : ℕ → ℕ → Model T → Event T → Model T → Type 0
  StepAll n l m (offer e r) m' = (r ≡ verdict n l (counts m.gathering) 0 (e ∷ [])) × MatchBool (is_done r) (JoinedAll m (e ∷ []) m') (m' ≡ m)
  StepAll n l m (group es r) m' = (r ≡ verdict n l (counts m.gathering) 0 es) × MatchBool (is_done r) (JoinedAll m es m') (m' ≡ m)
  StepAll n l m (trial es r) m' = (r ≡ verdict n l (counts m.gathering) 0 es) × (m' ≡ m)
  StepAll n l m (slot k s ds r) m' =
      (r ≡ slot_reply n m.left (counts m.clearing) k (length ds)) × MatchBool (is_done r) (SlotAll n l m s ds m') ((ds ≡ []) × (m' ≡ m))
  StepAll n l m (question a r) m' = (r ≡ told n m.left (counts m.gathering) (counts m.clearing) a) × (m' ≡ m)

  none_drop : (k : ℕ) → drop {A = T} k [] ≡ []
  none_drop zero = refl
  none_drop (suc k) = refl

  module _ (n l : ℕ) (m m' : Model T) (o : Ported n m) (o' : Ported n m') where
    all_gathering : ((i j : ℕ) → i < n → j < n → m'.gathering i j ≡ m.gathering i j) → m'.gathering ≡ m.gathering
    all_gathering f =
        fun_ext (λ i. fun_ext (λ j. each n i j (f i j) (λ x. o'.no_gathering i j x ∙ sym (o.no_gathering i j x))))

    all_clearing : ((i j : ℕ) → i < n → j < n → m'.clearing i j ≡ m.clearing i j) → m'.clearing ≡ m.clearing
    all_clearing f =
        fun_ext (λ i. fun_ext (λ j. each n i j (f i j) (λ x. o'.no_clearing i j x ∙ sym (o.no_clearing i j x))))

    added : (es : List (Entry T)) (r : Answer) → r ≡ verdict n l (counts m.gathering) 0 es → is_done r ≡ true → JoinedQueues n m es m' → JoinedAll m es m'
    added es r rep ok a =
        let ins = inside_done n l (counts m.gathering) 0 es (ap is_done (sym rep) ∙ ok) in
        record {
          gathers =
              λ i j.
              each n i j (a.gathers i j)
              (λ x.
              o'.no_gathering i j x ∙ sym (none_outside n es ins i j x) ∙ ap (λ y. y ++ of_pair i j es) (sym (o.no_gathering i j x)));
          clears = all_clearing a.clears;
          stays = a.stays;
        }

    went : (s : Joins) → LeftQueues n m s m' → LeftAll m s m'
    went s w =
        record {
          gathers = all_gathering w.gathers;
          clears =
              λ i j.
              each n i j (w.clears i j)
              (λ x. o'.no_clearing i j x ∙ sym (none_drop (joined s i j)) ∙ ap (drop (joined s i j)) (sym (o.no_clearing i j x)));
          falls = w.falls;
        }

    turns : Turns n l m m' → TurnsAll l m m'
    turns w =
        record {
          gathers = λ i j. each n i j (w.gathers i j) (o'.no_gathering i j);
          clears =
              fun_ext (λ i. fun_ext (λ j. each n i j (w.clears i j) (λ x. o'.no_clearing i j x ∙ sym (o.no_gathering i j x))));
          again = w.again;
        }

    done_slot : (s : Joins) (ds : List (Entry T)) → SlotServed n l m s ds m' → SlotAll n l m s ds m'
    done_slot s ds d =
        record {
          lawful = d.lawful;
          written = d.written;
          next = when_both (eqb m.left 1) (Turns n l m m') (TurnsAll l m m') (LeftQueues n m s m') (LeftAll m s m') turns (went s) d.next;
        }

    pub step_all : (e : Event T) → Step n l m e m' → StepAll n l m e m'
    step_all (offer e r) w =
        (w.0, when_map (is_done r) (JoinedQueues n m (e ∷ []) m') (JoinedAll m (e ∷ []) m') (m' ≡ m) (added (e ∷ []) r w.0) w.1)
    step_all (group es r) w = (w.0, when_map (is_done r) (JoinedQueues n m es m') (JoinedAll m es m') (m' ≡ m) (added es r w.0) w.1)
    step_all (trial es r) w = w
    step_all (slot k s ds r) w =
        (w.0, when_map (is_done r) (SlotServed n l m s ds m') (SlotAll n l m s ds m') ((ds ≡ []) × (m' ≡ m)) (λ _. done_slot s ds) w.1)
    step_all (question a r) w = w
