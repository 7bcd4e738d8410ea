-- The records of a slot, pair by pair.
use Rattle.std.proofs.Common.{◌≡◌, ℕ, zero, suc, ◌<◌, ◌≤◌, Bool, true, false, cond, ◌&&◌, eqb, List, [], ◌∷◌, ◌++◌, map, length, take, Some, None, Option, sym, refl, ap, ◌∙◌, subst, inl, inr, arith}
use Rattle.std.proofs.lemmas.List.{append-nil, append_assoc}
use Rattle.std.proofs.lemmas.Bool.{and_left, and_right, cases_eq, cases_lt, eq-eqb, eqb-true, ne_eqb}
use Rattle.std.specs.Option.{option_map, option_to_list}
use Rattle.crossbar.proofs.Clearing.{joined_has, lowered}
use Rattle.crossbar.proofs.Loads.{load_le, loads_le, none_waits}
use Rattle.crossbar.proofs.Sums.{total_le}
use Rattle.crossbar.specs.Clearing.{Lawful, served}
use Rattle.crossbar.specs.Joining.{IsSetting, Joins, is_input, joined, pairs_below}
use Rattle.crossbar.specs.Loads.{largest_load, load}
use Rattle.crossbar.specs.declared.port.Port.{Port}
use Rattle.crossbar.specs.declared.port.Port.TheVariants.{Input, Output}
use Rattle.service.specs.Histories.{of_pair}
use Rattle.service.specs.Law.{pairs_of}
use Rattle.service.specs.Models.{Queues, counts, record_at, records_of}
use Rattle.service.specs.declared.entry.Entry.{Entry}

module _ {T : Type 0} where
  pub of_pair_append : (i j : ℕ) (xs ys : List (Entry T)) → of_pair i j (xs ++ ys) ≡ of_pair i j xs ++ of_pair i j ys
  of_pair_append i j [] ys = refl
  of_pair_append i j (e ∷ es) ys =
      let a : List T = cond (eqb i e.pair.input && eqb j e.pair.output) (e.packet ∷ []) [] in
      ap (λ y. a ++ y) (of_pair_append i j es ys) ∙ sym (append_assoc a (of_pair i j es) (of_pair i j ys))

  -- packets that all cross by one pair
  entries : ℕ → ℕ → List T → List (Entry T)
  entries a b xs = map (λ x. record { pair = record { input = a; output = b }; packet = x }) xs

  entries_no : (i j a b : ℕ) → (eqb i a && eqb j b) ≡ false → (xs : List T) → of_pair i j (entries a b xs) ≡ []
  unfolding entries
  entries_no i j a b h [] = refl
  entries_no i j a b h (x ∷ xs) = ap (λ t. cond t (x ∷ []) [] ++ of_pair i j (entries a b xs)) h ∙ entries_no i j a b h xs

  entries_yes : (i j : ℕ) (xs : List T) → of_pair i j (entries i j xs) ≡ xs
  unfolding entries
  entries_yes i j [] = refl
  entries_yes i j (x ∷ xs) =
      let e : (eqb i i && eqb j j) ≡ true = rw (eq-eqb i i refl, eq-eqb j j refl) in
      ap (λ t. cond t (x ∷ []) [] ++ of_pair i j (entries i j xs)) e ∙ ap (λ y. x ∷ y) (entries_yes i j xs)

  module _ (q : Queues T) where
    at_other : (o : Option ℕ) (i j k : ℕ) → (j ≡ k → ⊥) → of_pair i j (record_at o k q) ≡ []
    unfolding entries
    at_other None i j k h = refl
    at_other (Some a) i j k h = entries_no i j a k (and_right (eqb i a) (eqb j k) (ne_eqb j k h)) (take 1 (q a k))

    at_same : (o : Option ℕ) (i j : ℕ) → of_pair i j (record_at o j q) ≡ take (is_input o i) (q i j)
    unfolding entries
    at_same None i j = refl
    at_same (Some a) i j = go (eqb i a) refl
      where
        go : (b : Bool) → eqb i a ≡ b → of_pair i j (entries a j (take 1 (q a j))) ≡ take (cond b 1 0) (q i j)
        go true e = subst (λ z. of_pair i j (entries z j (take 1 (q z j))) ≡ take 1 (q i j)) (eqb-true i a e) (entries_yes i j (take 1 (q i j)))
        go false e = entries_no i j a j (and_left (eqb i a) (eqb j j) e) (take 1 (q a j))

    beyond : (n : ℕ) (s : Joins) (i j : ℕ) → n ≤ j → of_pair i j (records_of n s q) ≡ []
    beyond zero s i j h = refl
    beyond (suc n) s i j h =
        of_pair_append i j (records_of n s q) (record_at (s n) n q)
        ∙ ap (λ y. y ++ of_pair i j (record_at (s n) n q)) (beyond n s i j (omega arith))
        ∙ at_other (s n) i j n (λ e. omega arith)

    below : (n : ℕ) (s : Joins) (i j : ℕ) → j < n → of_pair i j (records_of n s q) ≡ take (joined s i j) (q i j)
    below zero s i j h = absurd (omega arith)
    below (suc n) s i j h =
        of_pair_append i j (records_of n s q) (record_at (s n) n q)
        ∙ elim (cases_eq j n) [
          | inl e ↦
              let here : of_pair i j (record_at (s n) n q) ≡ take (joined s i j) (q i j) =
              subst (λ k. of_pair i j (record_at (s k) k q) ≡ take (joined s i j) (q i j)) e (at_same (s j) i j)
              in
              ap (λ y. y ++ of_pair i j (record_at (s n) n q)) (beyond n s i j (omega arith)) ∙ here
          | inr e ↦
              ap (λ y. of_pair i j (records_of n s q) ++ y) (at_other (s n) i j n e)
              ∙ append-nil (of_pair i j (records_of n s q))
              ∙ below n s i j (omega (arith, e))
        ]

    -- of each pair the records have what is taken from its queue
    pub taken_from : (n : ℕ) (s : Joins) → IsSetting n s → (i j : ℕ) → of_pair i j (records_of n s q) ≡ take (joined s i j) (q i j)
    taken_from n s c i j =
        elim (cases_lt j n) [
          | inl h ↦ below n s i j h
          | inr h ↦
              let z : joined s i j ≡ 0 =
              elim (cases_lt 0 (joined s i j)) [
                | inl g ↦ absurd (omega (arith, (c.inside i j (joined_has (s j) i g)).1))
                | inr g ↦ omega arith
              ]
              in
              beyond n s i j h ∙ ap (λ k. take k (q i j)) (sym z)
        ]

    none_at : (o : Option ℕ) (k : ℕ) → ((i : ℕ) → o ≡ Some i → ⊥) → record_at o k q ≡ []
    none_at None k h = refl
    none_at (Some a) k h = absurd (h a refl)

    no_records : (n : ℕ) (s : Joins) → ((i j : ℕ) → s j ≡ Some i → ⊥) → records_of n s q ≡ []
    no_records zero s h = refl
    no_records (suc n) s h = ap (λ y. y ++ record_at (s n) n q) (no_records n s h) ∙ none_at (s n) n (λ i e. h i n e)

    -- a packet leaves only while one waits
    pub some_record : (n : ℕ) (s : Joins) → Lawful n (counts q) s → (ds : List (Entry T)) → ds ≡ records_of n s q → 1 ≤ length ds → 1 ≤ largest_load n (counts q)
    some_record n s law ds e h =
        elim (cases_lt 0 (largest_load n (counts q))) [
          | inl g ↦ g
          | inr g ↦
              let z : largest_load n (counts q) ≡ 0 = omega arith in
              let none : (i j : ℕ) → s j ≡ Some i → ⊥ =
              λ i j w.
              let at = law.setting.inside i j w in
              omega (arith, none_waits n (counts q) z i j at.0 at.1, law.packet i j w)
              in
              let gone : length ds ≡ 0 = ap length (e ∙ no_records n s none) in
              omega arith
        ]

    -- and while one waits, one leaves
    pub no_record : (n : ℕ) (s : Joins) → Lawful n (counts q) s → (ds : List (Entry T)) → ds ≡ records_of n s q → length ds ≡ 0 → largest_load n (counts q) ≡ 0
    no_record n s law [] e h =
        let up : largest_load n (counts q) ≤ largest_load n (served s (counts q)) =
        loads_le n (counts q) _ (λ p l. omega (arith, stays p, load_le n (served s (counts q)) p l))
        in
        omega (arith, lowered n (counts q) s law)
      where
        nonempty : (xs : List T) (k : ℕ) → 0 < k → 1 ≤ length xs → [] ≡ take k xs → ⊥
        nonempty [] k g h e = omega arith
        nonempty (x ∷ xs) zero g h e = omega arith
        nonempty (x ∷ xs) (suc k) g h e = let z : ◌≡◌ {A = ℕ} 0 (suc (length (take k xs))) = ap length e in omega arith

        same : (i j : ℕ) → counts q i j ≤ served s (counts q) i j
        same i j =
            let t : [] ≡ take (joined s i j) (q i j) = ap (of_pair i j) e ∙ taken_from n s law.setting i j in
            elim (cases_lt 0 (joined s i j)) [
              | inl g ↦ absurd (nonempty (q i j) (joined s i j) g (law.packet i j (joined_has (s j) i g)) t)
              | inr g ↦ omega arith
            ]

        stays : (p : Port) → load n (counts q) p ≤ load n (served s (counts q)) p
        stays (Input i) = total_le n (λ j. counts q i j) (λ j. served s (counts q) i j) (λ j _. same i j)
        stays (Output j) = total_le n (λ i. counts q i j) (λ i. served s (counts q) i j) (λ i _. same i j)
    no_record n s law (d ∷ ds) e h = absurd (omega arith)

    pairs_append : (xs ys : List (Entry T)) → pairs_of (xs ++ ys) ≡ pairs_of xs ++ pairs_of ys
    pairs_append [] ys = refl
    pairs_append (x ∷ xs) ys = ap (λ y. x.pair ∷ y) (pairs_append xs ys)

    pairs_at : (o : Option ℕ) (k : ℕ) → ((i : ℕ) → o ≡ Some i → 1 ≤ length (q i k)) → pairs_of (record_at o k q) ≡ option_to_list (option_map (λ i. record { input = i; output = k }) o)
    pairs_at None k h = refl
    pairs_at (Some a) k h = go (q a k) (h a refl)
      where
        go : (xs : List T) → 1 ≤ length xs → pairs_of (map (λ x. record { pair = record { input = a; output = k }; packet = x }) (take 1 xs)) ≡ record { input = a; output = k } ∷ []
        go [] h = absurd (omega arith)
        go (x ∷ xs) h = refl

    -- the records are one for each pair of the setting
    pub pairs_recorded : (n : ℕ) (s : Joins) → ((i j : ℕ) → s j ≡ Some i → 1 ≤ length (q i j)) → pairs_of (records_of n s q) ≡ pairs_below s n
    unfolding pairs_below
    pairs_recorded zero s h = refl
    pairs_recorded (suc n) s h =
        pairs_append (records_of n s q) (record_at (s n) n q)
        ∙ ap (λ y. y ++ pairs_of (record_at (s n) n q)) (pairs_recorded n s h)
        ∙ ap (λ y. pairs_below s n ++ y) (pairs_at (s n) n (λ i e. h i n e))
