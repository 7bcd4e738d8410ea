-- What any history tells of its periods, and what replies tell of the ports.
use Rattle.std.proofs.Common.{◌≡◌, ℕ, suc, ◌+◌, ◌/◌, ◌%◌, ◌<◌, ◌≤◌, Bool, true, false, cond, eqb, ltb, ◌⊎◌, List, [], ◌∷◌, ◌++◌, sym, refl, ap, ◌∙◌, inl, inr, mod-lt, arith}
use Rattle.std.proofs.lemmas.Bool.{cases_lt, cases_eq, ne_eqb, eq-eqb, lt-ltb, le-ltb}
use Rattle.std.proofs.lemmas.List.{append-nil, append_assoc}
use Rattle.crossbar.specs.Loads.{Counts}
use Rattle.reply.specs.Answers.{Answer}
use Rattle.service.specs.Histories.{Event, offer, group, trial, slot, question, History, is_done, of_pair, accepts, slot_done, slots, period, left_of, accepted, of_period, before_period, of_all, gathering, clearing}
use Rattle.service.specs.Law.{ByTable, Moment, Law}
use Rattle.service.specs.Tables.{late, verdict}
use Rattle.service.specs.declared.entry.Entry.{Entry}
use Rattle.service.proofs.Periods.{on_div, turn_div}
use Rattle.service.proofs.Verdicts.{inside_done, none_outside}

module _ {T : Type 0} (l : ℕ) (pos : 1 ≤ l) where
  pub later : (h : History T) (e : Event T) → period l h ≤ period l (e ∷ h)
  later h e = go (slot_done e)
    where
      go : (b : Bool) → slots h / l ≤ (slots h + cond b 1 0) / l
      go true =
          elim (cases_lt (suc (slots h % l)) l) [
            | inl g ↦ omega (arith, on_div (slots h) l g)
            | inr g ↦ let q : suc (slots h % l) ≡ l = omega (arith, mod-lt (slots h) pos) in omega (arith, turn_div (slots h) l q)
          ]
      go false = let z : slots h ≡ slots h + 0 = omega arith in omega (arith, ap (λ x. x / l) z)

  -- nothing was accepted yet in a later period
  pub none_later : (h : History T) (k : ℕ) → period l h < k → (i j : ℕ) → of_period l k h i j ≡ []
  none_later [] k g i j = refl
  none_later (e ∷ h) k g i j =
      let low : period l h < k = omega (arith, later h e) in
      ap (λ y. y ++ cond (eqb (period l h) k) (accepts e i j) []) (none_later h k low i j)
      ∙ ap (λ b. cond b (accepts e i j) []) (ne_eqb (period l h) k (λ q. omega arith))

  -- and so what was accepted before a later period is all
  pub all_later : (h : History T) (k : ℕ) → period l h < k → (i j : ℕ) → before_period l k h i j ≡ of_all l h i j
  all_later [] k g i j = refl
  all_later (e ∷ h) k g i j =
      let low : period l h < k = omega (arith, later h e) in
      ap (λ y. y ++ cond (ltb (period l h) k) (accepts e i j) []) (all_later h k low i j)
      ∙ ap (λ b. of_all l h i j ++ cond b (accepts e i j) []) (lt-ltb (period l h) k low)

  pub all_parts : (h : History T) (k : ℕ) → period l h ≤ k → (i j : ℕ) → before_period l k h i j ++ of_period l k h i j ≡ of_all l h i j
  all_parts [] k g i j = refl
  all_parts (e ∷ h) k g i j =
      let low : period l h ≤ k = omega (arith, later h e) in
      let x : List T = accepts e i j in
      let b : List T = before_period l k h i j in
      let o : List T = of_period l k h i j in
      elim (cases_eq (period l h) k) [
        | inl q ↦
            ap (λ t. (b ++ cond t x []) ++ (o ++ cond (eqb (period l h) k) x [])) (le-ltb (period l h) k (omega arith))
            ∙ ap (λ t. (b ++ []) ++ (o ++ cond t x [])) (eq-eqb (period l h) k q)
            ∙ ap (λ y. y ++ (o ++ x)) (append-nil b) ∙ sym (append_assoc b o x) ∙ ap (λ y. y ++ x) (all_parts h k low i j)
        | inr q ↦
            let lt : period l h < k = omega (arith, q) in
            ap (λ t. (b ++ cond t x []) ++ (o ++ cond (eqb (period l h) k) x [])) (lt-ltb (period l h) k lt)
            ∙ ap (λ t. (b ++ x) ++ (o ++ cond t x [])) (ne_eqb (period l h) k q)
            ∙ ap (λ y. (b ++ x) ++ y) (append-nil o ∙ none_later h k lt i j) ∙ append-nil (b ++ x)
            ∙ ap (λ y. y ++ x) (all_later h k lt i j)
      ]

  pub none_before : (h : History T) (i j : ℕ) → before_period l 0 h i j ≡ []
  none_before [] i j = refl
  none_before (e ∷ h) i j =
      ap (λ y. y ++ cond (ltb (period l h) 0) (accepts e i j) []) (none_before h i j)
      ∙ ap (λ b. cond b (accepts e i j) []) (le-ltb (period l h) 0 (omega arith))

module _ {T : Type 0} where
  -- the law at the last moment, and what it says of the replies at every moment
  pub at_last : (n l : ℕ) (h : History T) → Law n l h → Moment n l h
  at_last n l [] w = w
  at_last n l (e ∷ h) w = w.0

  abbrev pub Replies : ℕ → ℕ → History T → Type 0
  Replies n l [] = Unit {0}
  Replies n l (e ∷ h) = ByTable n l h e × Replies n l h

  abbrev pub NeverLate : ℕ → ℕ → History T → Type 0
  NeverLate n l [] = Unit {0}
  NeverLate n l (e ∷ h) = (late n (left_of l h) (clearing l h) ≡ false) × NeverLate n l h

  pub all_replies : (n l : ℕ) (h : History T) → Law n l h → Replies n l h
  all_replies n l [] w = tt
  all_replies n l (e ∷ h) w = (w.0.replies, all_replies n l h w.1)

  pub never_late : (n l : ℕ) (h : History T) → Law n l h → NeverLate n l h
  never_late n l [] w = tt
  never_late n l (e ∷ h) w = ((at_last n l h w.1).in_time, never_late n l h w.1)

  module _ (n l : ℕ) (f : ℕ → Bool) (i j : ℕ) (o : (n ≤ i) ⊎ (n ≤ j)) where
    outside_of : (d : Counts) (es : List (Entry T)) (r : Answer) → r ≡ verdict n l d 0 es → cond (is_done r) (of_pair i j es) [] ≡ []
    outside_of d es r rep = go (is_done r) refl
      where
        go : (b : Bool) → is_done r ≡ b → cond b (of_pair i j es) [] ≡ []
        go true e = none_outside n es (inside_done n l d 0 es (ap is_done (sym rep) ∙ e)) i j o
        go false e = refl

    on_nil : (xs ys : List T) (b : Bool) → xs ≡ [] → ys ≡ [] → xs ++ cond b ys [] ≡ []
    on_nil xs ys true e g = ap (λ x. x ++ ys) e ∙ g
    on_nil xs ys false e g = append-nil xs ∙ e

    pub none_accepted : (h : History T) → Replies n l h → accepted l f h i j ≡ []
    none_accepted [] r = refl
    none_accepted (offer e r ∷ h) w =
        on_nil (accepted l f h i j) (accepts (offer e r) i j) (f (period l h)) (none_accepted h w.1) (outside_of (gathering l h) (e ∷ []) r w.0)
    none_accepted (group es r ∷ h) w =
        on_nil (accepted l f h i j) (accepts (group es r) i j) (f (period l h)) (none_accepted h w.1) (outside_of (gathering l h) es r w.0)
    none_accepted (trial es r ∷ h) w = on_nil (accepted l f h i j) [] (f (period l h)) (none_accepted h w.1) refl
    none_accepted (slot m s ds r ∷ h) w = on_nil (accepted l f h i j) [] (f (period l h)) (none_accepted h w.1) refl
    none_accepted (question a r ∷ h) w = on_nil (accepted l f h i j) [] (f (period l h)) (none_accepted h w.1) refl
