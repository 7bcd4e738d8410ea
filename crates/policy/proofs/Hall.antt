-- A search that is stuck: what it reached has one input more than outputs.
use Rattle.std.proofs.Common.{◌≡◌, ℕ, zero, suc, ◌<◌, ◌≤◌, Bool, true, false, ◌&&◌, ◌||◌, eqb, ◌⊎◌, Decides, sym, refl, ◌∙◌, subst, inl, inr, mul-le-mul_left, mul-add, arith}
use Rattle.std.proofs.lemmas.Bool.{cases_lt, lt-ltb}
use Rattle.std.proofs.lemmas.Bool.Decides.{Decides-below_or, Decides-and, Decides-or, Decides-eqb}
use Rattle.crossbar.specs.Loads.{Counts, load}
use Rattle.crossbar.specs.Sums.{total}
use Rattle.crossbar.specs.declared.port.Port.TheVariants.{Input, Output}
use Rattle.crossbar.proofs.Sums.{total_has, total_one, total_zeros}
use Rattle.policy.specs.Graphs.{Graph, Partners, Keeps, Stuck, InJoined, Weighs}
use Rattle.policy.specs.Picked.{count, over}
use Rattle.policy.proofs.Counting.{over_le, over_lt, over_const, flow}
use Rattle.policy.proofs.Partnering.{joins_le, same, same_eq, same_le, same_one}

-- is some number below n one that f picks?
some : ℕ → (ℕ → Bool) → Bool
some zero f = false
some (suc n) f = f n || some n f

module _ (n : ℕ) (s : Partners) (start : ℕ) (q : ℕ → Bool) where
  -- the inputs that a search reached: `start`, and each that is joined to an output in q
  reached : ℕ → Bool
  reached i = eqb i start || some n (λ j. q j && eqb (s j) i)

  abbrev Reached : ℕ → Type 0
  Reached i = (i ≡ start) ⊎ ((j : ℕ) × (j < n) × ((q j ≡ true) × (s j ≡ i)))

  decides_reached : (i : ℕ) → Decides (reached i) (Reached i)
  unfolding reached some
  decides_reached i =
      Decides-or _ _ (Decides-eqb i start)
      (Decides-below_or (λ j. q j && eqb (s j) i) (λ j. (q j ≡ true) × (s j ≡ i)) (λ m. some m (λ j. q j && eqb (s j) i))
      (λ j. Decides-and (q j) (eqb (s j) i) (λ e. e, λ e. e) (Decides-eqb (s j) i))
      refl (λ _. refl) n)

module _ (n : ℕ) (d : Graph) (s : Partners) (w start : ℕ) (q : ℕ → Bool) (ok : Keeps n d s) (st : Stuck n d s w start q) where
  p : ℕ → Bool
  p = reached n s start q

  p_start : p start ≡ true
  unfolding p
  p_start = (decides_reached n s start q start).1 (inl refl)

  p_next : (j : ℕ) → j < n → q j ≡ true → p (s j) ≡ true
  unfolding p
  p_next j l e = (decides_reached n s start q (s j)).1 (inr (j, l, (e, refl)))

  -- what holds of `start`, and of the input of each output in q, holds of each input that was reached
  p_all : (P : ℕ → Type 0) → P start → ((j : ℕ) → j < n → q j ≡ true → P (s j)) → (i : ℕ) → p i ≡ true → P i
  unfolding p
  p_all P h k i e =
      elim ((decides_reached n s start q i).0 e) [
        | inl r ↦ subst P (sym r) h
        | inr (j, l, (picked, same)) ↦ subst P same (k j l picked)
      ]

  p_closed : (i j : ℕ) → i < n → j < n → p i ≡ true → d.link i j ≡ true → q j ≡ true
  p_closed i j _ l e = p_all (λ x. d.link x j ≡ true → q j ≡ true) (st.first j l) (λ k m f. st.next k j m l f) i e

  p_heavy : (i : ℕ) → i < n → p i ≡ true → w ≤ d.load i
  p_heavy i _ e = p_all (λ x. w ≤ d.load x) st.heavy (λ k m f. st.heavies k m f) i e

  -- one input more than outputs
  more : count n q < count n p
  more =
      let each : count n q ≤ over n q (λ j. total n (λ i. same (s j) i)) =
      over_le q n _ _ (λ j l e. omega (arith, total_has n (λ i. same (s j) i) (s j) (st.joined j l e), same_one (s j) (s j) refl))
      in
      let turn : over n q (λ j. total n (λ i. same (s j) i)) ≤ over n p (λ i. total n (λ j. same (s j) i)) =
      flow n n (λ j i. same (s j) i) q p (λ j i l _ e h. subst (λ x. p x ≡ true) (same_eq (s j) i h) (p_next j l e))
      in
      let fewer : over n p (λ i. total n (λ j. same (s j) i)) < count n p =
      over_lt p n _ _ start (λ i l _. joins_le n s ok.once i l) st.within p_start
      (omega (arith, total_zeros n (λ j. same (s j) start) (λ j l. none j l)))
      in
      omega arith
    where
      none : (j : ℕ) → j < n → same (s j) start ≡ 0
      none j l =
          elim (cases_lt 0 (same (s j) start)) [
            | inl h ↦ absurd (st.unjoined j l (same_eq (s j) start h))
            | inr h ↦ omega arith
          ]

  -- the packets of the inputs that were reached are all for the outputs that were, and those have too few
  clash : (c : Counts) → Weighs n d c → 0 < w → ((j : ℕ) → j < n → load n c (Output j) ≤ w) → ⊥
  clash c weighs pos cap =
      let low : over n p (λ _. w) ≤ over n p (λ i. load n c (Input i)) =
      over_le p n _ _ (λ i l e. omega (arith, p_heavy i l e, weighs.loads i l))
      in
      let mid : over n p (λ i. load n c (Input i)) ≤ over n q (λ j. load n c (Output j)) =
      flow n n c p q (λ i j l m e o. p_closed i j l m e (weighs.links i j l m ∙ lt-ltb 0 (c i j) o))
      in
      let top : over n q (λ j. load n c (Output j)) ≤ over n q (λ _. w) = over_le q n _ _ (λ j l _. cap j l) in
      omega (arith, over_const p n w, over_const q n w, mul-le-mul_left w more, mul-add w (count n q) 1)

  module _ (t : Partners) (ok' : Keeps n d t) where
    hit : (i : ℕ) → InJoined n t i → 1 ≤ total n (λ j. same (t j) i)
    hit i (j, l, e) = omega (arith, total_has n (λ j. same (t j) i) j l, same_one (t j) i e)

    packets : (i j : ℕ) → i < n → j < n → p i ≡ true → t j ≡ i → q j ≡ true
    packets i j l m e f = p_closed i j l m e (subst (λ x. d.link x j ≡ true) f (ok'.packet j m (omega arith)))

    only : (j : ℕ) → total n (λ i. same (t j) i) ≤ 1
    only j =
        total_one n _ (λ i _. same_le (t j) i)
        (λ i k _ _ hi hk. let ei = same_eq (t j) i hi in let ek = same_eq (t j) k hk in omega arith)

    beaten : ((i : ℕ) → i < n → w ≤ d.load i → InJoined n t i) → ⊥
    beaten all =
        let each : count n p ≤ over n p (λ i. total n (λ j. same (t j) i)) = over_le p n _ _ (λ i l e. hit i (all i l (p_heavy i l e))) in
        let turn : over n p (λ i. total n (λ j. same (t j) i)) ≤ over n q (λ j. total n (λ i. same (t j) i)) =
        flow n n (λ i j. same (t j) i) p q (λ i j l m e h. packets i j l m e (same_eq (t j) i h))
        in
        let few : over n q (λ j. total n (λ i. same (t j) i)) ≤ count n q = over_le q n _ _ (λ j l _. only j) in
        omega (arith, more)

-- A search from an input whose load no output's load passes is never stuck.
pub never_stuck : (n : ℕ) (d : Graph) (c : Counts) (s : Partners) (w start : ℕ) (q : ℕ → Bool) → Weighs n d c → Keeps n d s → 0 < w → ((j : ℕ) → j < n → load n c (Output j) ≤ w) → Stuck n d s w start q → ⊥
never_stuck n d c s w start q weighs ok pos cap st = clash n d s w start q ok st c weighs pos cap

-- Where a search is stuck, no setting whatever joins every input of load w or more.
pub best_possible : (n : ℕ) (d : Graph) (s t : Partners) (w start : ℕ) (q : ℕ → Bool) → Keeps n d s → Stuck n d s w start q → Keeps n d t → ((i : ℕ) → i < n → w ≤ d.load i → InJoined n t i) → ⊥
best_possible n d s t w start q ok st ok' all = beaten n d s w start q ok st t ok' all
