-- Every call carries a stretch on.
use Rattle.std.proofs.Common.{◌≡◌, ℕ, zero, suc, ◌+◌, ◌<◌, ◌≤◌, true, false, cond, eqb, List, [], ◌∷◌, ◌++◌, map, length, take, drop, Some, None, MatchBool, Option, sym, refl, ap, ◌∙◌, subst, inl, inr, arith, length-append}
use mathlib.Core.Path.{fun_ext}
use native.Mathlib.Nat.{zero-div, zero-mod}
use Rattle.std.proofs.lemmas.Bool.{eqb-true}
use Rattle.std.proofs.lemmas.List.{take-append-drop}
use Rattle.crossbar.specs.Joining.{IsSetting, Joins, joined, pairs_below}
use Rattle.crossbar.specs.Loads.{Counts, largest_load, packets}
use Rattle.reply.specs.Answers.{Answer, place_of}
use Rattle.service.specs.Histories.{Event, offer, group, trial, slot, question, History, is_done, of_pair, accepts, departs, slot_done, period, within, left_of, accepted, departed, gathering, clearing, some_left, last_departure, taken, sent}
use Rattle.service.specs.Law.{pairs_of}
use Rattle.service.specs.Models.{Queues, Model, counts, made, Ported, Stretch, Step, record_at, records_of}
use Rattle.service.specs.Tables.{verdict, slot_reply, told}
use Rattle.service.specs.Theorems.{Begins}
use Rattle.service.specs.declared.entry.Entry.{Entry}
use Rattle.service.proofs.Every.{JoinedAll, LeftAll, TurnsAll, SlotAll, StepAll, step_all}
use Rattle.service.proofs.Keeps.{kept_fresh, all_left}
use Rattle.service.proofs.Records.{taken_from, pairs_recorded, some_record, no_record}
use Rattle.service.proofs.Verdicts.{packets_add, packets_none, sum_of, none_outside, Inside, inside_append, Fine, fine}
use Rattle.service.proofs.Told.{at_last}
use Rattle.service.proofs.Steps.{when_cases, At, move, g_path, c_path, l_path, gathering_fits, step_kept, same_kept, slot_kept, assemble, kept_of, some_yes, some_no}

module _ {T : Type 0} where
  pub begins : Begins T
  begins n l a b c d =
      assemble n l [] (made l) (move n l (kept_fresh n l c) (sym (zero-div l)) (sym (zero-mod l)) refl refl refl) (a, b) (c, d) (λ x. x) tt tt
      (omega (arith, packets_none n))

  inside_at : (n : ℕ) (q : Queues T) (o : Option ℕ) (k : ℕ) → ((i : ℕ) → o ≡ Some i → i < n) → k < n → Inside n (record_at o k q)
  unfolding Inside
  inside_at n q None k h g = tt
  inside_at n q (Some a) k h g = go (q a k)
    where
      go : (xs : List T) → Inside n (map (λ x. record { pair = record { input = a; output = k }; packet = x }) (take 1 xs))
      go [] = tt
      go (x ∷ xs) = (h a refl, g, tt)

  inside_of : (n : ℕ) (q : Queues T) (s : Joins) → IsSetting n s → (k : ℕ) → k ≤ n → Inside n (records_of k s q)
  unfolding Inside
  inside_of n q s c zero h = tt
  inside_of n q s c (suc k) h =
      inside_append n (records_of k s q) (record_at (s k) k q) (inside_of n q s c k (omega arith))
      (inside_at n q (s k) k (λ i e. (c.inside i k e).0) (omega arith))

  module _ (n l : ℕ) (h : History T) (m m' : Model T) (c : At n l h m) where
    waits : Model T → ℕ
    waits x = packets n (λ i j. counts x.gathering i j + counts x.clearing i j)

    module _ (es : List (Entry T)) (r : Answer) (rep : r ≡ verdict n l (counts m.gathering) 0 es) where
      fine_now : is_done r ≡ true → Fine n l (counts m.gathering) 0 es
      fine_now ok = fine n l (counts m.gathering) 0 es (gathering_fits n l h m m' c) (ap is_done (sym rep) ∙ ok)

      add_kept : (e : Event T) → slot_done e ≡ false → ((i j : ℕ) → departs e i j ≡ []) → some_left e ≡ false → ((i j : ℕ) → accepts e i j ≡ cond (is_done r) (of_pair i j es) []) → MatchBool (is_done r) (JoinedAll m es m') (m' ≡ m) → At n l (e ∷ h) m'
      add_kept e sd dp sl is w =
          elim (when_cases (is_done r) (JoinedAll m es m') (m' ≡ m) w) [
            | inl a ↦
                let f = fine_now a.0 in
                let all : (i j : ℕ) → accepts e i j ≡ of_pair i j es = λ i j. is i j ∙ ap (λ b. cond b (of_pair i j es) []) a.0 in
                step_kept n l h m m' c e sd dp sl
                (λ i j. a.1.gathers i j ∙ ap (λ y. m.gathering i j ++ y) (sym (all i j)))
                a.1.clears a.1.stays (λ i j o. all i j ∙ none_outside n es f.inside i j o)
                (subst (λ d. largest_load n d ≤ l)
                (sym (fun_ext (λ i. fun_ext (λ j. ap length (a.1.gathers i j) ∙ length-append (m.gathering i j) (of_pair i j es)))))
                f.fits)
            | inr a ↦
                same_kept n l h m m' c e sd dp sl (λ i j. is i j ∙ ap (λ b. cond b (of_pair i j es) []) a.0) a.1
          ]

      add_sum : (t s : ℕ) → t ≡ s + waits m → MatchBool (is_done r) (JoinedAll m es m') (m' ≡ m) → t + cond (is_done r) (place_of r) 0 ≡ s + waits m'
      unfolding waits
      add_sum t s con w =
          elim (when_cases (is_done r) (JoinedAll m es m') (m' ≡ m) w) [
            | inl a ↦
                let f = fine_now a.0 in
                let place : place_of r ≡ length es = ap place_of rep ∙ omega (arith, f.place_is) in
                let more : (λ i j. counts m'.gathering i j + counts m'.clearing i j) ≡ (λ i j. (counts m.gathering i j + counts m.clearing i j) + length (of_pair i j es)) =
                fun_ext (λ i. fun_ext (λ j.
                omega (
                  arith,
                  ap length (a.1.gathers i j) ∙ length-append (m.gathering i j) (of_pair i j es),
                  ap (λ (q : Queues T). length (q i j)) a.1.clears,
                )))
                in
                let sum = ap (packets n) more ∙ packets_add n (λ i j. counts m.gathering i j + counts m.clearing i j) (λ i j. length (of_pair i j es)) in
                omega (
                  arith,
                  sum,
                  sum_of n es f.inside,
                  ap (λ b. cond b (place_of r) 0) a.0,
                )
            | inr a ↦ omega (arith, ap (λ b. cond b (place_of r) 0) a.0, ap waits a.1)
          ]

    module _ (k : ℕ) (s : Joins) (ds : List (Entry T)) (r : Answer) (rep : r ≡ slot_reply n m.left (counts m.clearing) k (length ds)) where
      rest_same : is_done r ≡ true → SlotAll n l m s ds m' → ◌≡◌ {A = Counts} (λ i j. counts m'.gathering i j + counts m'.clearing i j) (λ i j. counts m.gathering i j + length (drop (joined s i j) (m.clearing i j)))
      rest_same ok d =
          elim (when_cases (eqb m.left 1) (TurnsAll l m m') (LeftAll m s m') d.next) [
            | inl t ↦
                let e : suc (within l h) ≡ l = omega (arith, eqb-true m.left 1 t.0, c.left_is) in
                let out : (i j : ℕ) → drop (joined s i j) (m.clearing i j) ≡ [] =
                all_left n l (period l h) (within l h) (λ f. accepted l f h) (departed h) (λ k. last_departure l k h) m m' c s d.lawful (some_left (slot k s ds r))
                (λ e. some_record m.clearing n s d.lawful ds d.written (some_yes n l h m m' c k s ds r ok d ds e))
                (λ e. no_record m.clearing n s d.lawful ds d.written (some_no n l h m m' c k s ds r ok d ds e)) e
                in
                fun_ext (λ i. fun_ext (λ j.
                omega (
                  arith,
                  ap length (t.1.gathers i j),
                  ap (λ (q : Queues T). length (q i j)) t.1.clears,
                  ap length (out i j),
                )))
            | inr t ↦
                fun_ext (λ i. fun_ext (λ j.
                omega (
                  arith,
                  ap length (t.1.clears i j),
                  ap (λ (q : Queues T). length (q i j)) t.1.gathers,
                )))
          ]

      slot_sum : (t u : ℕ) → t ≡ u + waits m → MatchBool (is_done r) (SlotAll n l m s ds m') ((ds ≡ []) × (m' ≡ m)) → t ≡ u + cond (is_done r) (length ds) 0 + waits m'
      unfolding waits
      slot_sum t u con w =
          elim (when_cases (is_done r) (SlotAll n l m s ds m') ((ds ≡ []) × (m' ≡ m)) w) [
            | inl a ↦
                let d = a.1 in
                let off : Counts = λ i j. length (of_pair i j ds) in
                let rest : Counts = λ i j. length (drop (joined s i j) (m.clearing i j)) in
                let within_n : Inside n ds = subst (Inside n) (sym d.written) (inside_of n m.clearing s d.lawful.setting n (omega arith)) in
                let split : (λ i j. counts m.gathering i j + counts m.clearing i j) ≡ (λ i j. (counts m.gathering i j + rest i j) + off i j) =
                fun_ext (λ i. fun_ext (λ j.
                omega (
                  arith,
                  ap length (take-append-drop (joined s i j) (m.clearing i j)),
                  length-append (take (joined s i j) (m.clearing i j)) (drop (joined s i j) (m.clearing i j)),
                  ap length (ap (of_pair i j) d.written ∙ taken_from m.clearing n s d.lawful.setting i j),
                )))
                in
                let sum : packets n (λ i j. counts m.gathering i j + counts m.clearing i j) ≡ packets n (λ i j. counts m.gathering i j + rest i j) + packets n off =
                ap (packets n) split ∙ packets_add n (λ i j. counts m.gathering i j + rest i j) off
                in
                let same : packets n (λ i j. counts m'.gathering i j + counts m'.clearing i j) ≡ packets n (λ i j. counts m.gathering i j + rest i j) = ap (packets n) (rest_same a.0 d) in
                omega (
                  arith,
                  sum,
                  sum_of n ds within_n,
                  ap (λ b. cond b (length ds) 0) a.0,
                )
            | inr a ↦ omega (arith, ap (λ b. cond b (length ds) 0) a.0, ap waits a.1.1)
          ]

      slot_on : MatchBool (is_done r) (SlotAll n l m s ds m') ((ds ≡ []) × (m' ≡ m)) → At n l (slot k s ds r ∷ h) m'
      slot_on w =
          elim (when_cases (is_done r) (SlotAll n l m s ds m') ((ds ≡ []) × (m' ≡ m)) w) [
            | inl a ↦ slot_kept n l h m m' c k s ds r a.0 a.1
            | inr a ↦
                same_kept n l h m m' c (slot k s ds r) a.0 (λ i j. ap (λ b. cond b (of_pair i j ds) []) a.0) (none ds a.0) (λ i j. refl) a.1.1
          ]
        where
          none : (ds : List (Entry T)) → is_done r ≡ false → some_left (slot k s ds r) ≡ false
          none [] e = refl
          none (d ∷ ds) e = e

      slot_recorded : MatchBool (is_done r) (SlotAll n l m s ds m') ((ds ≡ []) × (m' ≡ m)) → pairs_of ds ≡ cond (is_done r) (pairs_below s n) []
      slot_recorded w =
          elim (when_cases (is_done r) (SlotAll n l m s ds m') ((ds ≡ []) × (m' ≡ m)) w) [
            | inl a ↦
                ap pairs_of a.1.written ∙ pairs_recorded m.clearing n s a.1.lawful.packet ∙ ap (λ b. cond b (pairs_below s n) []) (sym a.0)
            | inr a ↦ ap pairs_of a.1.0 ∙ ap (λ b. cond b (pairs_below s n) []) (sym a.0)
          ]

  -- the sum of what waits, as the law of the history before tells it
  before : (n l : ℕ) (h : History T) (m : Model T) → Stretch n l h m → taken h ≡ sent h + packets n (λ i j. counts m.gathering i j + counts m.clearing i j)
  before n l h m st =
      (at_last n l h st.law).conserved
      ∙ ap (λ (d : Counts). sent h + packets n (λ i j. d i j + clearing l h i j)) (sym (g_path n l h m m (kept_of n l h m st)))
      ∙ ap (λ (d : Counts). sent h + packets n (λ i j. counts m.gathering i j + d i j)) (sym (c_path n l h m m (kept_of n l h m st)))

  onward : (n l : ℕ) (h : History T) (m m' : Model T) (e : Event T) → Stretch n l h m → StepAll n l m e m' → Stretch n l (e ∷ h) m'
  unfolding waits
  onward n l h m m' (offer e r) st w =
      let c = kept_of n l h m st in
      assemble n l (offer e r ∷ h) m'
      (add_kept n l h m m' c (e ∷ []) r w.0 (offer e r) refl (λ i j. refl) refl (λ i j. refl) w.1)
      st.some_ports st.some_slots (λ x. (x, st.law))
      (subst (λ d. r ≡ verdict n l d 0 (e ∷ [])) (g_path n l h m m c) w.0)
      tt
      (omega (arith, add_sum n l h m m' c (e ∷ []) r w.0 (taken h) (sent h) (before n l h m st) w.1))
  onward n l h m m' (group es r) st w =
      let c = kept_of n l h m st in
      assemble n l (group es r ∷ h) m'
      (add_kept n l h m m' c es r w.0 (group es r) refl (λ i j. refl) refl (λ i j. refl) w.1)
      st.some_ports st.some_slots (λ x. (x, st.law))
      (subst (λ d. r ≡ verdict n l d 0 es) (g_path n l h m m c) w.0)
      tt
      (omega (arith, add_sum n l h m m' c es r w.0 (taken h) (sent h) (before n l h m st) w.1))
  onward n l h m m' (trial es r) st w =
      let c = kept_of n l h m st in
      assemble n l (trial es r ∷ h) m'
      (same_kept n l h m m' c (trial es r) refl (λ i j. refl) refl (λ i j. refl) w.1)
      st.some_ports st.some_slots (λ x. (x, st.law))
      (subst (λ d. r ≡ verdict n l d 0 es) (g_path n l h m m c) w.0)
      tt
      (omega (arith, before n l h m st ∙ ap (λ (x : Model T). sent h + packets n (λ i j. counts x.gathering i j + counts x.clearing i j)) (sym w.1)))
  onward n l h m m' (slot k s ds r) st w =
      let c = kept_of n l h m st in
      assemble n l (slot k s ds r ∷ h) m'
      (slot_on n l h m m' c k s ds r w.0 w.1)
      st.some_ports st.some_slots (λ x. (x, st.law)) (
      subst (λ d. r ≡ slot_reply n (left_of l h) d k (length ds)) (c_path n l h m m c)
      (subst (λ x. r ≡ slot_reply n x (counts m.clearing) k (length ds)) (l_path n l h m m c) w.0))
      (slot_recorded n l h m m' c k s ds r w.0 w.1)
      (omega (arith, slot_sum n l h m m' c k s ds r w.0 (taken h) (sent h) (before n l h m st) w.1))
  onward n l h m m' (question a r) st w =
      let c = kept_of n l h m st in
      assemble n l (question a r ∷ h) m'
      (same_kept n l h m m' c (question a r) refl (λ i j. refl) refl (λ i j. refl) w.1)
      st.some_ports st.some_slots (λ x. (x, st.law)) (
      subst (λ d. r ≡ told n (left_of l h) (gathering l h) d a) (c_path n l h m m c)
      (subst (λ d. r ≡ told n (left_of l h) d (counts m.clearing) a) (g_path n l h m m c)
      (subst (λ x. r ≡ told n x (counts m.gathering) (counts m.clearing) a) (l_path n l h m m c) w.0)))
      tt
      (omega (arith, before n l h m st ∙ ap (λ (x : Model T). sent h + packets n (λ i j. counts x.gathering i j + counts x.clearing i j)) (sym w.1)))

  pub carries : (n l : ℕ) (h : History T) (m m' : Model T) (e : Event T) → Ported n m' → Stretch n l h m → Step n l m e m' → Stretch n l (e ∷ h) m'
  carries n l h m m' e out st w =
      let c = kept_of n l h m st in
      let o : Ported n m = record { no_gathering = λ i j x. (c.outside i j x).0; no_clearing = λ i j x. (c.outside i j x).1 } in
      onward n l h m m' e st (step_all n l m m' o out e w)
