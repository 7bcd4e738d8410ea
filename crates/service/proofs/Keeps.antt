-- What is kept, carried on by one event.
use Rattle.std.proofs.Common.{◌≡◌, ℕ, zero, suc, ◌-◌, ◌<◌, ◌≤◌, min, Bool, true, false, cond, ◌&&◌, eqb, ltb, ◌⊎◌, List, [], ◌∷◌, ◌++◌, length, take, drop, sym, refl, ap, ◌∙◌, subst, inl, inr, arith, length-drop}
use mathlib.Core.Path.{fun_ext}
use Rattle.std.proofs.lemmas.Bool.{cases_lt, cases_eq, ne_eqb, eq-eqb, le-ltb, lt-ltb}
use Rattle.std.proofs.lemmas.List.{append-nil, append_assoc, take-append-drop}
use Rattle.crossbar.proofs.Clearing.{lowered as lowered_load}
use Rattle.crossbar.proofs.Loads.{largest_nothing, none_waits}
use Rattle.crossbar.specs.Clearing.{Lawful, served}
use Rattle.crossbar.specs.Joining.{Joins, joined}
use Rattle.crossbar.specs.Loads.{largest_load}
use Rattle.service.specs.Models.{Queues, Model, counts, made}
use Rattle.service.proofs.Every.{LeftAll, TurnsAll}
use Rattle.service.proofs.Kept.{Kept, due_by}

pub empty_of : {T : Type 0} (xs : List T) → length xs ≡ 0 → xs ≡ []
empty_of [] e = refl
empty_of (x ∷ xs) e = absurd (omega arith)

module _ {T : Type 0} where
  pub kept_fresh : (n l : ℕ) → 1 ≤ l → Kept {T = T} n l 0 0 (λ f i j. []) (λ i j. []) (λ k. 0) (made l)
  kept_fresh n l h =
      let nothing : (k : ℕ) → largest_load n (due_by {T = T} (λ f i j. []) k) ≡ 0 = elim [ zero ↦ largest_nothing n | suc k ↦ largest_nothing n ] in
      record {
        going = omega arith;
        gathers = λ i j. refl;
        clears = λ i j. refl;
        left_is = omega arith;
        none_yet = λ k g i j. refl;
        all_by = λ k g i j. refl;
        parts = λ i j. refl;
        outside = λ i j o. (refl, refl);
        bound = λ k. omega (arith, nothing k);
        falling = omega (arith, largest_nothing n);
        last_past = λ k g. sym (nothing k);
        last_now = omega arith;
        last_next = λ k g. refl;
        gone = λ k g i j. ([], refl);
        turned = λ e i j. refl;
      }

  module _ (n l p r : ℕ) (acc : (ℕ → Bool) → Queues T) (dep : Queues T) (last : ℕ → ℕ) (m m' : Model T) (c : Kept n l p r acc dep last m) where
    -- x is accepted
    pub kept_add : (x : Queues T) → ((i j : ℕ) → m'.gathering i j ≡ m.gathering i j ++ x i j) → m'.clearing ≡ m.clearing → m'.left ≡ m.left → ((i j : ℕ) → (n ≤ i) ⊎ (n ≤ j) → x i j ≡ []) → largest_load n (counts m'.gathering) ≤ l → Kept n l p r (λ f i j. acc f i j ++ cond (f p) (x i j) []) dep last m'
    kept_add x gs cs ls ins fits =
        record {
          going = c.going;
          gathers = gathers';
          clears = λ i j. ap (λ q. dep i j ++ q i j) cs ∙ c.clears i j ∙ sym (keep (λ q. ltb q p) (le-ltb p p (omega arith)) i j);
          left_is = omega (arith, c.left_is);
          none_yet = λ k g i j. keep (λ q. eqb q k) (ne_eqb p k (λ e. omega arith)) i j ∙ c.none_yet k g i j;
          all_by =
              λ k g i j.
              grow (λ q. ltb q k) (lt-ltb p k g) i j ∙ ap (λ y. y ++ x i j) (c.all_by k g i j);
          parts =
              λ i j.
              ap (λ y. y ++ acc' (λ q. eqb q p) i j) (keep (λ q. ltb q p) (le-ltb p p (omega arith)) i j)
              ∙ ap (λ y. acc (λ q. ltb q p) i j ++ y) (grow (λ q. eqb q p) (eq-eqb p p refl) i j)
              ∙ sym (append_assoc (acc (λ q. ltb q p) i j) (acc (λ q. eqb q p) i j) (x i j))
              ∙ ap (λ y. y ++ x i j) (c.parts i j);
          outside =
              λ i j o. (
                gs i j ∙ ap (λ y. y ++ x i j) (c.outside i j o).0 ∙ ins i j o,
                ap (λ q. q i j) cs ∙ (c.outside i j o).1,
              );
          bound = bound';
          falling = ap (λ q. largest_load n (counts q)) cs ∙ c.falling ∙ ap (λ d. largest_load n d - r) (sym (same p (omega arith)));
          last_past = λ k g. c.last_past k g ∙ ap (largest_load n) (sym (same k (omega arith)));
          last_now = c.last_now ∙ ap (λ d. min r (largest_load n d)) (sym (same p (omega arith)));
          last_next = c.last_next;
          gone =
              λ k g i j.
              let w = c.gone k g i j in
              (w.0, w.1 ∙ ap (λ y. y ++ w.0) (sym (keep (λ q. ltb q k) (le-ltb p k (omega arith)) i j)));
          turned =
              λ e i j. c.turned e i j ∙ sym (keep (λ q. ltb q (p - 1)) (le-ltb p (p - 1) (omega arith)) i j);
        }
      where
        acc' : (ℕ → Bool) → Queues T
        acc' f i j = acc f i j ++ cond (f p) (x i j) []

        keep : (f : ℕ → Bool) → f p ≡ false → (i j : ℕ) → acc f i j ++ cond (f p) (x i j) [] ≡ acc f i j
        keep f e i j = ap (λ b. acc f i j ++ cond b (x i j) []) e ∙ append-nil (acc f i j)

        grow : (f : ℕ → Bool) → f p ≡ true → (i j : ℕ) → acc f i j ++ cond (f p) (x i j) [] ≡ acc f i j ++ x i j
        grow f e i j = ap (λ b. acc f i j ++ cond b (x i j) []) e

        gathers' : (i j : ℕ) → m'.gathering i j ≡ acc (λ q. eqb q p) i j ++ cond (eqb p p) (x i j) []
        gathers' i j = gs i j ∙ ap (λ y. y ++ x i j) (c.gathers i j) ∙ sym (grow (λ q. eqb q p) (eq-eqb p p refl) i j)

        other : (k : ℕ) → (p ≡ k → ⊥) → due_by acc' (suc k) ≡ due_by acc (suc k)
        other k h = fun_ext (λ i. fun_ext (λ j. ap length (keep (λ q. eqb q k) (ne_eqb p k h) i j)))

        same : (k : ℕ) → k ≤ p → due_by acc' k ≡ due_by acc k
        same zero h = refl
        same (suc k) h = other k (λ e. omega arith)

        here : due_by acc' (suc p) ≡ counts m'.gathering
        here = fun_ext (λ i. fun_ext (λ j. ap length (sym (gathers' i j))))

        bound' : (k : ℕ) → largest_load n (due_by acc' k) ≤ l
        bound' zero = c.bound 0
        bound' (suc k) =
            elim (cases_eq p k) [
              | inl e ↦ subst (λ k. largest_load n (due_by acc' (suc k)) ≤ l) e (subst (λ d. largest_load n d ≤ l) (sym here) fits)
              | inr e ↦ subst (λ d. largest_load n d ≤ l) (sym (other k e)) (c.bound (suc k))
            ]

    module _ (s : Joins) (law : Lawful n (counts m.clearing) s) (b : Bool) (yes : b ≡ true → 1 ≤ largest_load n (counts m.clearing)) (no : b ≡ false → largest_load n (counts m.clearing) ≡ 0) where
      q : Queues T
      q = m.clearing

      last_other : (k : ℕ) → (p ≡ k → ⊥) → cond (eqb p k && b) (suc r) (last k) ≡ last k
      last_other k h = ap (λ t. cond (t && b) (suc r) (last k)) (ne_eqb p k h)

      last_here : cond (eqb p p && b) (suc r) (last p) ≡ min (suc r) (largest_load n (due_by acc p))
      last_here = ap (λ t. cond (t && b) (suc r) (last p)) (eq-eqb p p refl) ∙ go b refl
        where
          go : (t : Bool) → b ≡ t → cond t (suc r) (last p) ≡ min (suc r) (largest_load n (due_by acc p))
          go true e = omega (arith, yes e, c.falling)
          go false e = omega (arith, no e, c.falling, c.last_now)

      after : counts (λ i j. drop (joined s i j) (m.clearing i j)) ≡ served s (counts m.clearing)
      after = fun_ext (λ i. fun_ext (λ j. length-drop (joined s i j) (m.clearing i j)))

      lowered : largest_load n (counts (λ i j. drop (joined s i j) (m.clearing i j))) ≡ largest_load n (due_by acc p) - suc r
      lowered =
          omega (
            arith,
            ap (largest_load n) after,
            lowered_load n (counts m.clearing) s law,
            c.falling,
          )

      none_drop : (k : ℕ) (xs : List T) → xs ≡ [] → drop k xs ≡ []
      none_drop k xs e = ap (drop k) e ∙ go k
        where
          go : (k : ℕ) → drop {A = T} k [] ≡ []
          go zero = refl
          go (suc k) = refl

      pub kept_went : suc r < l → LeftAll m s m' → Kept n l p (suc r) acc (λ i j. dep i j ++ take (joined s i j) (m.clearing i j)) (λ k. cond (eqb p k && b) (suc r) (last k)) m'
      kept_went h w =
          record {
            going = h;
            gathers = λ i j. ap (λ x. x i j) w.gathers ∙ c.gathers i j;
            clears =
                λ i j.
                ap (λ y. (dep i j ++ take (joined s i j) (m.clearing i j)) ++ y) (w.clears i j)
                ∙ append_assoc (dep i j) (take (joined s i j) (m.clearing i j)) (drop (joined s i j) (m.clearing i j))
                ∙ ap (λ y. dep i j ++ y) (take-append-drop (joined s i j) (m.clearing i j)) ∙ c.clears i j;
            left_is = omega (arith, w.falls, c.left_is);
            none_yet = c.none_yet;
            all_by = c.all_by;
            parts = c.parts;
            outside =
                λ i j o. (
                  ap (λ x. x i j) w.gathers ∙ (c.outside i j o).0,
                  w.clears i j ∙ none_drop (joined s i j) (m.clearing i j) (c.outside i j o).1,
                );
            bound = c.bound;
            falling =
                ap (λ x. largest_load n (counts x)) (fun_ext (λ i. fun_ext (λ j. w.clears i j))) ∙ lowered;
            last_past = λ k g. last_other k (λ e. omega arith) ∙ c.last_past k g;
            last_now = last_here;
            last_next = λ k g. last_other k (λ e. omega arith) ∙ c.last_next k g;
            gone =
                λ k g i j.
                let x = c.gone k g i j in
                let t : List T = take (joined s i j) (m.clearing i j) in
                (x.0 ++ t, ap (λ y. y ++ t) x.1 ∙ append_assoc (acc (λ q. ltb q k) i j) x.0 t);
            turned = λ e i j. absurd (omega arith);
          }

      -- the last slot of a period leaves nothing to clear
      pub all_left : suc r ≡ l → (i j : ℕ) → drop (joined s i j) (m.clearing i j) ≡ []
      all_left h i j =
          let none : largest_load n (counts (λ i j. drop (joined s i j) (m.clearing i j))) ≡ 0 = omega (arith, lowered, c.bound p) in
          elim (cases_lt i n) [
            | inl a ↦
                elim (cases_lt j n) [
                  | inl b ↦ empty_of (drop (joined s i j) (m.clearing i j)) (none_waits n (counts (λ i j. drop (joined s i j) (m.clearing i j))) none i j a b)
                  | inr b ↦ none_drop (joined s i j) (m.clearing i j) (c.outside i j (inr b)).1
                ]
            | inr a ↦ none_drop (joined s i j) (m.clearing i j) (c.outside i j (inl a)).1
          ]

      pub kept_turn : suc r ≡ l → TurnsAll l m m' → Kept n l (suc p) 0 acc (λ i j. dep i j ++ take (joined s i j) (m.clearing i j)) (λ k. cond (eqb p k && b) (suc r) (last k)) m'
      kept_turn h w =
          record {
            going = omega arith;
            gathers = λ i j. w.gathers i j ∙ sym (c.none_yet (suc p) (omega arith) i j);
            clears =
                λ i j.
                ap (λ x. (dep i j ++ take (joined s i j) (m.clearing i j)) ++ x i j) w.clears
                ∙ ap (λ y. y ++ m.gathering i j) (out i j) ∙ ap (λ y. acc (λ q. ltb q p) i j ++ y) (c.gathers i j)
                ∙ c.parts i j ∙ sym (c.all_by (suc p) (omega arith) i j);
            left_is = omega (arith, w.again);
            none_yet = λ k g. c.none_yet k (omega arith);
            all_by = λ k g. c.all_by k (omega arith);
            parts =
                λ i j.
                ap (λ y. y ++ acc (λ q. eqb q (suc p)) i j) (c.all_by (suc p) (omega arith) i j)
                ∙ ap (λ y. acc (λ q. true) i j ++ y) (c.none_yet (suc p) (omega arith) i j) ∙ append-nil (acc (λ q. true) i j);
            outside = λ i j o. (w.gathers i j, ap (λ x. x i j) w.clears ∙ (c.outside i j o).0);
            bound = c.bound;
            falling =
                omega (
                  arith,
                  ap (λ x. largest_load n (counts x)) (w.clears ∙ fun_ext (λ i. fun_ext (λ j. c.gathers i j))),
                );
            last_past =
                λ k g.
                elim (cases_eq p k) [
                  | inl e ↦
                      subst (λ z. cond (eqb p z && b) (suc r) (last z) ≡ largest_load n (due_by acc z)) e
                      (omega (arith, last_here, c.bound p))
                  | inr e ↦ last_other k e ∙ c.last_past k (omega (arith, e))
                ];
            last_now = omega (arith, last_other (suc p) (λ e. omega arith), c.last_next (suc p) (omega arith));
            last_next = λ k g. last_other k (λ e. omega arith) ∙ c.last_next k (omega arith);
            gone =
                λ k g i j.
                elim (cases_eq k p) [
                  | inl e ↦ ([], out i j ∙ ap (λ z. acc (λ q. ltb q z) i j) (sym e) ∙ sym (append-nil (acc (λ q. ltb q k) i j)))
                  | inr e ↦
                      let x = c.gone k (omega (arith, e)) i j in
                      let t : List T = take (joined s i j) (m.clearing i j) in
                      (x.0 ++ t, ap (λ y. y ++ t) x.1 ∙ append_assoc (acc (λ q. ltb q k) i j) x.0 t)
                ];
            turned = λ e i j. let z : p ≡ suc p - 1 = omega arith in out i j ∙ ap (λ z. acc (λ q. ltb q z) i j) z;
          }
        where
          out : (i j : ℕ) → dep i j ++ take (joined s i j) (m.clearing i j) ≡ acc (λ q. ltb q p) i j
          out i j =
              let k : ℕ = joined s i j in
              let xs : List T = m.clearing i j in
              let e : take k xs ≡ xs = sym (append-nil (take k xs)) ∙ ap (λ y. take k xs ++ y) (sym (all_left h i j)) ∙ take-append-drop k xs in
              ap (λ y. dep i j ++ y) e ∙ c.clears i j
