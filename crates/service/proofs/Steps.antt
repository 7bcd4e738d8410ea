-- One event more of a history.
use Rattle.std.proofs.Common.{◌≡◌, ℕ, zero, suc, ◌+◌, ◌-◌, ◌*◌, ◌/◌, ◌%◌, ◌<◌, ◌≤◌, min, Bool, true, false, cond, eqb, ltb, ◌⊎◌, List, [], ◌∷◌, ◌++◌, length, take, MatchBool, sym, refl, ap, ◌∙◌, subst, inl, inr, mul-le-mul_right, mod-lt, add-mul, arith, length-append}
use mathlib.Core.Path.{fun_ext}
use Rattle.std.proofs.lemmas.Bool.{cases_lt, cases_eq, cases_order, ne_eqb, eqb-true, eqb-false, le-ltb, and_left, and_right, false≢true}
use Rattle.std.proofs.lemmas.List.{append-nil, append_assoc}
use Rattle.crossbar.proofs.Clearing.{no_fewer}
use Rattle.crossbar.proofs.Loads.{none_waits}
use Rattle.crossbar.specs.Joining.{Joins, joined}
use Rattle.crossbar.specs.Loads.{Counts, largest_load, packets}
use Rattle.reply.specs.Answers.{Answer}
use Rattle.service.specs.Histories.{Event, slot, History, is_done, of_pair, accepts, departs, slot_done, slots, period, within, left_of, accepted, departed, gathering, clearing, some_left, last_departure, due, taken, sent, period_demand, before_period, of_period}
use Rattle.service.specs.Law.{Replied, Written, Cleared, Waits, Moment, Law}
use Rattle.service.specs.Models.{Queues, Model, counts, Stretch}
use Rattle.service.specs.Tables.{late}
use Rattle.service.specs.declared.entry.Entry.{Entry}
use Rattle.service.proofs.Every.{LeftAll, TurnsAll, SlotAll}
use Rattle.service.proofs.Kept.{Kept, due_by}
use Rattle.service.proofs.Told.{none_later, all_later, all_parts, none_before, none_accepted, at_last, all_replies}
use Rattle.service.proofs.Periods.{whole, on_div, on_mod, turn_div, turn_mod}
use Rattle.service.proofs.Keeps.{kept_add, kept_went, kept_turn, empty_of}
use Rattle.service.proofs.Records.{taken_from, some_record, no_record}

pub when_cases : (b : Bool) (P Q : Type 0) → MatchBool b P Q → ((b ≡ true) × P) ⊎ ((b ≡ false) × Q)
when_cases true P Q h = inl (refl, h)
when_cases false P Q h = inr (refl, h)

nil_cond : {T : Type 0} (b : Bool) (x : List T) → x ≡ [] → cond b x [] ≡ []
nil_cond true x e = e
nil_cond false x e = refl

module _ {T : Type 0} (n l : ℕ) where
  abbrev pub At : History T → Model T → Type 0
  At h m = Kept n l (period l h) (within l h) (λ f. accepted l f h) (departed h) (λ k. last_departure l k h) m

  pub move : {p p' r r' : ℕ} {acc acc' : (ℕ → Bool) → Queues T} {dep dep' : Queues T} {last last' : ℕ → ℕ} {m : Model T} → Kept n l p r acc dep last m → p ≡ p' → r ≡ r' → acc ≡ acc' → dep ≡ dep' → last ≡ last' → Kept n l p' r' acc' dep' last' m
  move {p} {p'} {r} {r'} {acc} {acc'} {dep} {dep'} {last} {last'} {m} c e1 e2 e3 e4 e5 =
      subst (λ x. Kept n l x r' acc' dep' last' m) e1
      (subst (λ x. Kept n l p x acc' dep' last' m) e2
      (subst (λ x. Kept n l p r x dep' last' m) e3
      (subst (λ x. Kept n l p r acc x last' m) e4 (subst (λ x. Kept n l p r acc dep x m) e5 c))))

  due_is : (h : History T) (k : ℕ) → due l k h ≡ due_by (λ f. accepted l f h) k
  due_is h zero = refl
  due_is h (suc k) = refl

  module _ (h : History T) (m m' : Model T) (c : At h m) where
    pub g_path : counts m.gathering ≡ gathering l h
    g_path = fun_ext (λ i. fun_ext (λ j. ap length (c.gathers i j)))

    pub c_path : counts m.clearing ≡ clearing l h
    c_path =
        fun_ext (λ i. fun_ext (λ j.
        omega (arith, ap length (c.clears i j), length-append (departed h i j) (m.clearing i j))))

    pub l_path : m.left ≡ left_of l h
    l_path = omega (arith, c.left_is)

    pub gathering_fits : largest_load n (counts m.gathering) ≤ l
    gathering_fits = subst (λ d. largest_load n d ≤ l) (sym g_path) (c.bound (suc (period l h)))

    pub in_time : late n (left_of l h) (clearing l h) ≡ false
    in_time =
        subst (λ d. late n (left_of l h) d ≡ false) c_path
        (elim (cases_eq (left_of l h) 1) [
          | inl e ↦
              and_right (eqb (left_of l h) 1) (ltb 1 (largest_load n (counts m.clearing)))
              (le-ltb 1 (largest_load n (counts m.clearing)) (omega (arith, c.falling, c.bound (period l h), c.going)))
          | inr e ↦ and_left (eqb (left_of l h) 1) (ltb 1 (largest_load n (counts m.clearing))) (ne_eqb (left_of l h) 1 e)
        ])

    -- an event that is no done slot
    pub step_kept : (e : Event T) → slot_done e ≡ false → ((i j : ℕ) → departs e i j ≡ []) → some_left e ≡ false → ((i j : ℕ) → m'.gathering i j ≡ m.gathering i j ++ accepts e i j) → m'.clearing ≡ m.clearing → m'.left ≡ m.left → ((i j : ℕ) → (n ≤ i) ⊎ (n ≤ j) → accepts e i j ≡ []) → largest_load n (counts m'.gathering) ≤ l → At (e ∷ h) m'
    step_kept e sd dp sl gs cs ls ins fits =
        let s : slots h ≡ slots h + cond (slot_done e) 1 0 = omega (arith, ap {B = ℕ} (λ b. cond b 1 0) sd) in
        move (kept_add n l (period l h) (within l h) (λ f. accepted l f h) (departed h) (λ k. last_departure l k h) m m' c (accepts e) gs cs ls ins fits)
        (ap (λ x. x / l) s) (ap (λ x. x % l) s) refl
        (fun_ext (λ i. fun_ext (λ j. sym (ap (λ y. departed h i j ++ y) (dp i j) ∙ append-nil (departed h i j)))))
        (fun_ext (λ k.
        sym
        (ap (λ b. cond b (suc (within l h)) (last_departure l k h)) (and_right (eqb (period l h) k) (some_left e) sl))))

    -- an event that changes nothing
    pub same_kept : (e : Event T) → slot_done e ≡ false → ((i j : ℕ) → departs e i j ≡ []) → some_left e ≡ false → ((i j : ℕ) → accepts e i j ≡ []) → m' ≡ m → At (e ∷ h) m'
    same_kept e sd dp sl nil same =
        step_kept e sd dp sl
        (λ i j.
        ap (λ (x : Model T). x.gathering i j) same ∙ sym (append-nil (m.gathering i j)) ∙ ap (λ y. m.gathering i j ++ y) (sym (nil i j)))
        (ap (λ (x : Model T). x.clearing) same) (ap (λ (x : Model T). x.left) same) (λ i j o. nil i j)
        (subst (λ (x : Model T). largest_load n (counts x.gathering) ≤ l) (sym same) gathering_fits)

    module _ (k : ℕ) (s : Joins) (ds : List (Entry T)) (r : Answer) (ok : is_done r ≡ true) (d : SlotAll n l m s ds m') where
      pub some_yes : (ds : List (Entry T)) → some_left (slot k s ds r) ≡ true → 1 ≤ length ds
      some_yes [] e = absurd (false≢true e)
      some_yes (d ∷ ds) e = omega arith

      pub some_no : (ds : List (Entry T)) → some_left (slot k s ds r) ≡ false → length ds ≡ 0
      some_no [] e = refl
      some_no (d ∷ ds) e = absurd (false≢true (sym e ∙ ok))

      pub slot_kept : At (slot k s ds r ∷ h) m'
      slot_kept =
          let b : Bool = some_left (slot k s ds r) in
          let yes : b ≡ true → 1 ≤ largest_load n (counts m.clearing) = λ e. some_record m.clearing n s d.lawful ds d.written (some_yes ds e) in
          let no : b ≡ false → largest_load n (counts m.clearing) ≡ 0 = λ e. no_record m.clearing n s d.lawful ds d.written (some_no ds e) in
          let one : slots h + 1 ≡ slots h + cond (is_done r) 1 0 = ap (λ b. slots h + cond b 1 0) (sym ok) in
          let accs : (λ (f : ℕ → Bool). accepted l f h) ≡ (λ f. accepted l f (slot k s ds r ∷ h)) =
          fun_ext (λ f. fun_ext (λ i. fun_ext (λ j.
          sym (ap (λ y. accepted l f h i j ++ y) (nil_cond (f (period l h)) [] refl) ∙ append-nil (accepted l f h i j)))))
          in
          let deps : (λ i j. departed h i j ++ take (joined s i j) (m.clearing i j)) ≡ departed (slot k s ds r ∷ h) =
          fun_ext (λ i. fun_ext (λ j.
          ap (λ y. departed h i j ++ y)
          (sym (taken_from m.clearing n s d.lawful.setting i j) ∙ ap (of_pair i j) (sym d.written)
          ∙ ap (λ b. cond b (of_pair i j ds) []) (sym ok))))
          in
          elim (when_cases (eqb m.left 1) (TurnsAll l m m') (LeftAll m s m') d.next) [
            | inl w ↦
                let e : suc (within l h) ≡ l = omega (arith, eqb-true m.left 1 w.0, c.left_is) in
                move (kept_turn n l (period l h) (within l h) (λ f. accepted l f h) (departed h) (λ k. last_departure l k h) m m' c s d.lawful b yes no e w.1)
                (sym (turn_div (slots h) l e) ∙ ap (λ x. x / l) one) (sym (turn_mod (slots h) l e) ∙ ap (λ x. x % l) one) accs deps refl
            | inr w ↦
                let e : suc (within l h) < l = omega (arith, eqb-false m.left 1 w.0, c.left_is, c.going) in
                move (kept_went n l (period l h) (within l h) (λ f. accepted l f h) (departed h) (λ k. last_departure l k h) m m' c s d.lawful b yes no e w.1)
                (sym (on_div (slots h) l e) ∙ ap (λ x. x / l) one) (sym (on_mod (slots h) l e) ∙ ap (λ x. x % l) one) accs deps refl
          ]

  -- the parts of the law that what is kept gives
  module _ (h : History T) (m : Model T) (c : At h m) where
    empty_clearing : largest_load n (counts m.clearing) ≡ 0 → (i j : ℕ) → m.clearing i j ≡ []
    empty_clearing z i j =
        elim (cases_lt i n) [
          | inl a ↦
              elim (cases_lt j n) [
                | inl b ↦ empty_of (m.clearing i j) (none_waits n (counts m.clearing) z i j a b)
                | inr b ↦ (c.outside i j (inr b)).1
              ]
          | inr a ↦ (c.outside i j (inl a)).1
        ]

    cleared_now : (k : ℕ) → suc k ≡ period l h → largest_load n (period_demand l k h) ≤ within l h → Cleared n l k h
    cleared_now k e small =
        let due_is : largest_load n (due_by (λ f. accepted l f h) (period l h)) ≡ largest_load n (period_demand l k h) =
        ap (λ p. largest_load n (due_by (λ f. accepted l f h) p)) (sym e)
        in
        let last : last_departure l (suc k) h ≡ last_departure l (period l h) h = ap (λ p. last_departure l p h) e in
        let z : largest_load n (counts m.clearing) ≡ 0 = omega (arith, c.falling) in
        record {
          exactly = omega (arith, c.last_now);
          left_all =
              λ i j. (
                [],
                sym (append-nil (departed h i j)) ∙ ap (λ y. departed h i j ++ y) (sym (empty_clearing z i j)) ∙ c.clears i j
                    ∙ ap (λ p. before_period l p h i j) (sym e) ∙ sym (append-nil (before_period l (suc k) h i j)),
              );
        }

    pub clears_of : (k : ℕ) → suc k * l + largest_load n (period_demand l k h) ≤ slots h → Cleared n l k h
    clears_of k enough =
        elim (cases_order (suc k) (period l h)) [
          | inl e ↦
              let same : suc k * l ≡ period l h * l = ap (λ x. x * l) e in
              cleared_now k e (omega (arith, whole (slots h) l))
          | inr o ↦
              elim o [
                | inl lt ↦ record { exactly = c.last_past (suc k) lt; left_all = c.gone (suc k) lt }
                | inr gt ↦
                    let far : suc (period l h) * l ≤ suc k * l = mul-le-mul_right l gt in
                    absurd (omega (arith, whole (slots h) l, add-mul (period l h) 1 l, c.going))
              ]
        ]

    pub order_of : (i j : ℕ) → Waits l h i j
    order_of i j =
        record {
          older = m.clearing i j;
          clearing_is = sym (c.clears i j);
          waiting_is =
              sym (c.parts i j) ∙ ap (λ y. y ++ of_period l (period l h) h i j) (sym (c.clears i j))
              ∙ append_assoc (departed h i j) (m.clearing i j) (of_period l (period l h) h i j);
        }

    pub steady_of : (k : ℕ) → last_departure l k h ≡ min (slots h - k * l) (largest_load n (due_by (λ f. accepted l f h) k))
    steady_of k =
        elim (cases_order k (period l h)) [
          | inl e ↦
              let same : k * l ≡ period l h * l = ap (λ x. x * l) e in
              subst (λ x. last_departure l x h ≡ min (slots h - k * l) (largest_load n (due_by (λ f. accepted l f h) x))) (sym e)
              (c.last_now ∙ ap (λ x. min x (largest_load n (due_by (λ f. accepted l f h) (period l h)))) (let z : within l h ≡ slots h - k * l = omega (arith, whole (slots h) l) in z))
          | inr o ↦
              elim o [
                | inl lt ↦
                    let far : suc k * l ≤ period l h * l = mul-le-mul_right l lt in
                    omega (arith, c.last_past k lt, c.bound k, whole (slots h) l, add-mul k 1 l)
                | inr gt ↦
                    let far : suc (period l h) * l ≤ k * l = mul-le-mul_right l gt in
                    omega (arith, c.last_next k gt, whole (slots h) l, add-mul (period l h) 1 l, c.going)
              ]
        ]

    pub assemble : (1 ≤ n) × (n ≤ 16) → (1 ≤ l) × (l ≤ 1024) → (Moment n l h → Law n l h) → Replied n l h → Written n h → taken h ≡ sent h + packets n (λ i j. counts m.gathering i j + counts m.clearing i j) → Stretch n l h m
    assemble ns ls past rep rec con =
        record {
          some_ports = ns;
          some_slots = ls;
          gathers = c.gathers;
          clears = c.clears;
          remains = l_path h m m c;
          law =
              past
              (record {
                replies = rep;
                in_time = in_time h m m c;
                records = rec;
                bounded = λ k. subst (λ d. largest_load n d ≤ l) (sym (due_is h k)) (c.bound k);
                falling =
                    ap (largest_load n) (sym (c_path h m m c)) ∙ c.falling ∙ ap (λ d. largest_load n d - within l h) (sym (due_is h (period l h)));
                steady = λ k. steady_of k ∙ ap (λ d. min (slots h - k * l) (largest_load n d)) (sym (due_is h k));
                clears = clears_of;
                optimal = λ k. no_fewer n (period_demand l k h);
                in_order = order_of;
                at_turn = c.turned;
                conserved =
                    con
                    ∙ ap (λ (d : Counts). sent h + packets n (λ i j. d i j + counts m.clearing i j)) (g_path h m m c)
                    ∙ ap (λ (d : Counts). sent h + packets n (λ i j. gathering l h i j + d i j)) (c_path h m m c);
              });
        }

  -- what is kept, from a stretch
  module _ (h : History T) (m : Model T) (st : Stretch n l h m) where
    last_moment : Moment n l h
    last_moment = at_last n l h st.law

    right_nil : (xs ys : List T) → xs ++ ys ≡ [] → ys ≡ []
    right_nil [] ys e = e
    right_nil (x ∷ xs) ys e = let z : ◌≡◌ {A = ℕ} (suc (length (xs ++ ys))) 0 = ap length e in absurd (omega arith)

    count_is : counts m.clearing ≡ clearing l h
    count_is =
        fun_ext (λ i. fun_ext (λ j.
        omega (arith, ap length (st.clears i j), length-append (departed h i j) (m.clearing i j))))

    gone_of : (k : ℕ) → k < period l h → (i j : ℕ) → (w : List T) × (departed h i j ≡ before_period l k h i j ++ w)
    gone_of zero lt i j = (departed h i j, ap (λ y. y ++ departed h i j) (sym (none_before l st.some_slots.0 h i j)))
    gone_of (suc k) lt i j =
        let far : suc (suc k) * l ≤ period l h * l = mul-le-mul_right l lt in
        (last_moment.clears k (omega (arith, last_moment.bounded (suc k), whole (slots h) l, add-mul (suc k) 1 l))).left_all i j

    pub kept_of : At h m
    kept_of =
        let pos : 1 ≤ l = st.some_slots.0 in
        let small : within l h < l = mod-lt (slots h) pos in
        record {
          going = small;
          gathers = st.gathers;
          clears = st.clears;
          left_is = omega (arith, st.remains);
          none_yet = none_later l pos h;
          all_by = all_later l pos h;
          parts = all_parts l pos h (period l h) (omega arith);
          outside =
              λ i j o. (
                st.gathers i j ∙ none_accepted n l (λ q. eqb q (period l h)) i j o h (all_replies n l h st.law),
                right_nil (departed h i j) (m.clearing i j) (st.clears i j ∙ none_accepted n l (λ q. ltb q (period l h)) i j o h (all_replies n l h st.law)),
              );
          bound = λ k. subst (λ d. largest_load n d ≤ l) (due_is h k) (last_moment.bounded k);
          falling = ap (largest_load n) count_is ∙ last_moment.falling ∙ ap (λ d. largest_load n d - within l h) (due_is h (period l h));
          last_past =
              λ k lt.
              let far : suc k * l ≤ period l h * l = mul-le-mul_right l lt in
              let e : last_departure l k h ≡ largest_load n (due l k h) =
              omega (arith, last_moment.steady k, last_moment.bounded k, whole (slots h) l, add-mul k 1 l)
              in
              e ∙ ap (largest_load n) (due_is h k);
          last_now =
              let z : slots h - period l h * l ≡ within l h = omega (arith, whole (slots h) l) in
              last_moment.steady (period l h) ∙ ap (λ x. min x (largest_load n (due l (period l h) h))) z
              ∙ ap (λ d. min (within l h) (largest_load n d)) (due_is h (period l h));
          last_next =
              λ k gt.
              let far : suc (period l h) * l ≤ k * l = mul-le-mul_right l gt in
              omega (arith, last_moment.steady k, whole (slots h) l, add-mul (period l h) 1 l, small);
          gone = gone_of;
          turned = last_moment.at_turn;
        }
