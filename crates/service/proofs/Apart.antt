-- Answers since a turn do not depend on what came before.
use Rattle.std.proofs.Common.{◌≡◌, ℕ, suc, ◌+◌, ◌/◌, ◌%◌, ◌<◌, ◌≤◌, Bool, true, false, cond, eqb, ltb, [], ◌∷◌, ◌++◌, length, sym, refl, ap, ◌∙◌, ap₂, inl, inr, mod-lt, arith}
use mathlib.Core.Path.{fun_ext}
use native.Mathlib.Nat.{zero-mod}
use Rattle.std.proofs.lemmas.Bool.{cases_lt, cases_Bool, ne_eqb, eq-eqb}
use Rattle.reply.specs.Answers.{Answer, done, refused}
use Rattle.reply.specs.declared.reason.Reason.TheVariants.{ListTooShort, LeftOver}
use Rattle.service.specs.Histories.{Event, offer, group, trial, slot, question, History, is_done, accepts, slot_done, slots, period, within, left_of, of_period, gathering, clearing, Turned, answers, SameCall, offers, groups, trials, slots_of, questions, SameCalls, none, more}
use Rattle.service.specs.Law.{ByTable}
use Rattle.service.specs.Tables.{verdict, late}
use Rattle.service.specs.Theorems.{Independent}
use Rattle.service.proofs.Told.{none_later, Replies, NeverLate, all_replies, never_late}
use Rattle.service.proofs.Periods.{on_div, on_mod, turn_div, turn_mod}

-- a slot is done exactly if its list has room
slot_ok : (a b : Bool) (k : ℕ) (r : Answer) → r ≡ cond a (refused ListTooShort 0) (cond b (refused LeftOver 0) (done k)) → b ≡ false → is_done r ≡ cond a false true
slot_ok true b k r e f = ap is_done e
slot_ok false b k r e f = ap is_done (e ∙ ap (λ t. cond t (refused LeftOver 0) (done k)) f)

module _ {T : Type 0} (n l : ℕ) (pos : 1 ≤ l) where
  -- at a turn nothing gathers
  none_gathers : (h : History T) → Turned l h → (i j : ℕ) → of_period l (period l h) h i j ≡ []
  none_gathers [] t i j = refl
  none_gathers (e ∷ h) t i j =
      let one : slots h + cond (slot_done e) 1 0 ≡ slots h + 1 = ap (λ b. slots h + cond b 1 0) t.0 in
      let q : suc (slots h % l) ≡ l =
      elim (cases_lt (suc (slots h % l)) l) [
        | inl g ↦ absurd (omega (arith, on_mod (slots h) l g, ap (λ x. x % l) one, t.1))
        | inr g ↦ omega (arith, mod-lt (slots h) pos)
      ]
      in
      let next : period l (e ∷ h) ≡ suc (period l h) = ap (λ x. x / l) one ∙ turn_div (slots h) l q in
      let low : period l h < period l (e ∷ h) = omega arith in
      ap (λ y. y ++ cond (eqb (period l h) (period l (e ∷ h))) (accepts e i j) []) (none_later l pos h (period l (e ∷ h)) low i j)
      ∙ ap (λ b. cond b (accepts e i j) []) (ne_eqb (period l h) (period l (e ∷ h)) (λ q. omega arith))

  turned_within : (h : History T) → Turned l h → within l h ≡ 0
  turned_within [] t = zero-mod l
  turned_within (e ∷ h) t = t.1

  -- what gathers after an event in the same period
  gathers_on : (h : History T) (e : Event T) → period l (e ∷ h) ≡ period l h → (i j : ℕ) → of_period l (period l (e ∷ h)) (e ∷ h) i j ≡ of_period l (period l h) h i j ++ accepts e i j
  gathers_on h e same i j =
      ap (λ p. of_period l p (e ∷ h) i j) same
      ∙ ap (λ b. of_period l (period l h) h i j ++ cond b (accepts e i j) []) (eq-eqb (period l h) (period l h) refl)

  -- two histories that stand alike
  record Alike (h h' : History T) : Type 0 where
    pub at : within l h ≡ within l h'
    pub gathered : (i j : ℕ) → of_period l (period l h) h i j ≡ of_period l (period l h') h' i j

  alike_gathering : (h h' : History T) → Alike h h' → gathering l h ≡ gathering l h'
  alike_gathering h h' a = fun_ext (λ i. fun_ext (λ j. ap length (a.gathered i j)))

  stays : (h : History T) (e : Event T) → slot_done e ≡ false → slots (e ∷ h) ≡ slots h
  stays h e f = ap (λ b. slots h + cond b 1 0) f ∙ omega arith

  -- the same call, which is no done slot and accepts the same
  alike_on : (h h' : History T) (e e' : Event T) → Alike h h' → slot_done e ≡ false → slot_done e' ≡ false → ((i j : ℕ) → accepts e i j ≡ accepts e' i j) → Alike (e ∷ h) (e' ∷ h')
  alike_on h h' e e' a f f' same =
      record {
        at = ap (λ x. x % l) (stays h e f) ∙ a.at ∙ sym (ap (λ x. x % l) (stays h' e' f'));
        gathered =
            λ i j.
            gathers_on h e (ap (λ x. x / l) (stays h e f)) i j ∙ ap₂ ◌++◌ (a.gathered i j) (same i j)
            ∙ sym (gathers_on h' e' (ap (λ x. x / l) (stays h' e' f')) i j);
      }

  -- a done slot in both
  alike_slot : (h h' : History T) (e e' : Event T) → Alike h h' → slot_done e ≡ true → slot_done e' ≡ true → ((i j : ℕ) → accepts e i j ≡ accepts e' i j) → Alike (e ∷ h) (e' ∷ h')
  alike_slot h h' e e' a t t' same =
      let one : slots (e ∷ h) ≡ slots h + 1 = ap (λ b. slots h + cond b 1 0) t in
      let one' : slots (e' ∷ h') ≡ slots h' + 1 = ap (λ b. slots h' + cond b 1 0) t' in
      elim (cases_lt (suc (slots h % l)) l) [
        | inl g ↦
            let g' : suc (slots h' % l) < l = omega (arith, a.at) in
            record {
              at = ap (λ x. x % l) one ∙ on_mod (slots h) l g ∙ ap suc a.at ∙ sym (ap (λ x. x % l) one' ∙ on_mod (slots h') l g');
              gathered =
                  λ i j.
                  gathers_on h e (ap (λ x. x / l) one ∙ on_div (slots h) l g) i j ∙ ap₂ ◌++◌ (a.gathered i j) (same i j)
                  ∙ sym (gathers_on h' e' (ap (λ x. x / l) one' ∙ on_div (slots h') l g') i j);
            }
        | inr g ↦
            let q : suc (slots h % l) ≡ l = omega (arith, mod-lt (slots h) pos) in
            let q' : suc (slots h' % l) ≡ l = omega (arith, a.at) in
            let z : within l (e ∷ h) ≡ 0 = ap (λ x. x % l) one ∙ turn_mod (slots h) l q in
            let z' : within l (e' ∷ h') ≡ 0 = ap (λ x. x % l) one' ∙ turn_mod (slots h') l q' in
            record {
              at = z ∙ sym z';
              gathered = λ i j. none_gathers (e ∷ h) (t, z) i j ∙ sym (none_gathers (e' ∷ h') (t', z') i j);
            }
      ]

  module _ (before before' : History T) (turned : Turned l before) (turned' : Turned l before') where
    step : (since since' : History T) (e e' : Event T) → SameCall e e' → Alike (since ++ before) (since' ++ before') → answers since ≡ answers since' → ByTable n l (since ++ before) e → late n (left_of l (since ++ before)) (clearing l (since ++ before)) ≡ false → ByTable n l (since' ++ before') e' → late n (left_of l (since' ++ before')) (clearing l (since' ++ before')) ≡ false → Alike (e ∷ (since ++ before)) (e' ∷ (since' ++ before')) × (answers (e ∷ since) ≡ answers (e' ∷ since'))
    step since since' _ _ (offers {e} {r} {r'}) a w rep in_time rep' in_time' =
        let same : r ≡ r' = rep ∙ ap (λ d. verdict n l d 0 (e ∷ [])) (alike_gathering (since ++ before) (since' ++ before') a) ∙ sym rep' in (
          alike_on (since ++ before) (since' ++ before') (offer e r) (offer e r') a refl refl (λ i j. ap (λ x. accepts (offer e x) i j) same),
          ap₂ ◌∷◌ same w,
        )
    step since since' _ _ (groups {es} {r} {r'}) a w rep in_time rep' in_time' =
        let same : r ≡ r' = rep ∙ ap (λ d. verdict n l d 0 es) (alike_gathering (since ++ before) (since' ++ before') a) ∙ sym rep' in (
          alike_on (since ++ before) (since' ++ before') (group es r) (group es r') a refl refl (λ i j. ap (λ x. accepts (group es x) i j) same),
          ap₂ ◌∷◌ same w,
        )
    step since since' _ _ (trials {es} {r} {r'}) a w rep in_time rep' in_time' =
        let same : r ≡ r' = rep ∙ ap (λ d. verdict n l d 0 es) (alike_gathering (since ++ before) (since' ++ before') a) ∙ sym rep' in (
          alike_on (since ++ before) (since' ++ before') (trial es r) (trial es r') a refl refl (λ i j. refl),
          ap₂ ◌∷◌ same w,
        )
    step since since' _ _ (slots_of {room = m} {s} {s'} {ds} {ds'} {r} {r'}) a w rep in_time rep' in_time' =
        let h : History T = since ++ before in
        let h' : History T = since' ++ before' in
        let ok : is_done r ≡ cond (ltb m n) false true = slot_ok (ltb m n) (late n (left_of l h) (clearing l h)) (length ds) r rep in_time in
        let ok' : is_done r' ≡ cond (ltb m n) false true = slot_ok (ltb m n) (late n (left_of l h') (clearing l h')) (length ds') r' rep' in_time' in
        let both : is_done r ≡ is_done r' = ok ∙ sym ok' in (
          elim (cases_Bool (is_done r)) [
            | inl t ↦ alike_slot h h' (slot m s ds r) (slot m s' ds' r') a t (sym both ∙ t) (λ i j. refl)
            | inr f ↦ alike_on h h' (slot m s ds r) (slot m s' ds' r') a f (sym both ∙ f) (λ i j. refl)
          ],
          w,
        )
    step since since' _ _ (questions {q = q} {r} {r'}) a w rep in_time rep' in_time' = (
      alike_on (since ++ before) (since' ++ before') (question q r) (question q r') a refl refl (λ i j. refl),
      w,
    )

    alike : (since since' : History T) → SameCalls since since' → Replies n l (since ++ before) → NeverLate n l (since ++ before) → Replies n l (since' ++ before') → NeverLate n l (since' ++ before') → Alike (since ++ before) (since' ++ before') × (answers since ≡ answers since')
    alike _ _ none rep in_time rep' in_time' = (
      record {
        at = turned_within before turned ∙ sym (turned_within before' turned');
        gathered = λ i j. none_gathers before turned i j ∙ sym (none_gathers before' turned' i j);
      },
      refl,
    )
    alike _ _ (more {e} {e'} {h} {h'} c cs) rep in_time rep' in_time' =
        let ih = alike h h' cs rep.1 in_time.1 rep'.1 in_time'.1 in
        step h h' e e' c ih.0 ih.1 rep.0 in_time.0 rep'.0 in_time'.0

pub independent : (T : Type 0) → Independent T
independent T n l since since' before before' pos law law' t t' cs =
    (alike n l pos before before' t t' since since' cs (all_replies n l (since ++ before) law) (never_late n l (since ++ before) law) (all_replies n l (since' ++ before') law') (never_late n l (since' ++ before') law')).1
