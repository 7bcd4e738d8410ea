-- The outputs that end a path, found pair by pair of the setting.
use Rattle.std.proofs.Common.{◌≡◌, ℕ, ◌<◌, ◌≤◌, Bool, true, false, cond, ltb, ◌⊎◌, ◌∷◌, [], ◌++◌, Some, None, sym, refl, ap, ◌∙◌, subst, inl, inr, arith, ◌+◌}
use Rattle.std.proofs.lemmas.Bool.{both_ways, cases_eq, eq-eqb, ne_eqb, lt-ltb}
use Rattle.crossbar.specs.Joining.{Joins, pairs_below, with_pair}
use Rattle.crossbar.specs.declared.port.Pair.{Pair}
use Rattle.crossbar.proofs.Giving.{below_tell, given_more}
use Rattle.crossbar.proofs.Serving.{below}
use Rattle.mask.specs.Bits.{holds}
use Rattle.mask.specs.declared.Mask.{Mask}
use Rattle.policy.specs.Graphs.{Graph, partners, Partners}
use Rattle.policy.specs.Paths.{Held, Spare, Holds}
use Rattle.policy.proofs.Turning.{partners_none, partners_some, Inverse}

-- the outputs that end a path, after one that did is held
pub spare_less : (n : ℕ) (d : Graph) (s t : Partners) (w end : ℕ) (m v : Mask) → Spare n d s w m → Holds n d s w end t → holds v end ≡ false → ((k : ℕ) → (k ≡ end → ⊥) → holds v k ≡ holds m k) → Spare n d t w v
spare_less n d s t w end m v old h here others =
    record {
      held =
          λ j l e.
          elim (cases_eq j end) [
            | inl q ↦ subst (λ x. Held n d t w x) (sym q) h.ended
            | inr ne ↦ h.forth j l ne (old.held j l (sym (others j ne) ∙ e))
          ];
      free =
          λ j l e k.
          elim (cases_eq j end) [
            | inl q ↦ both_ways (holds v end) here (ap (holds v) (sym q) ∙ e)
            | inr ne ↦ old.free j l (sym (others j ne) ∙ e) (h.back j l ne k)
          ];
    }

module _ (n : ℕ) (few : n ≤ 16) (d : Graph) (w : ℕ) where
  -- where nothing is joined, every output ends a path
  pub spare_none : (m : Mask) → ((k : ℕ) → k < n → holds m k ≡ true) → Spare n d (partners (λ j. None)) w m
  spare_none m every =
      record {
        held = λ j l e. absurd (both_ways (holds m j) e (every j l));
        free = λ j l e h. omega (arith, h.0);
      }

  -- what holds of the partner of one output holds where it is the same
  carry : (s t : Joins) (j : ℕ) → s j ≡ t j → Held n d (partners s) w j → Held n d (partners t) w j
  carry s t j e h = subst (λ o. (partners (λ _. o) j < n) × (w ≤ d.load (partners (λ _. o) j))) e h

  module _ (s : Joins) (a b : ℕ) (m : Mask) (spare : Spare n d (partners s) w m) where
    here : (j : ℕ) → j ≡ b → with_pair a b s j ≡ Some a
    here j e = ap (λ t. cond t (Some a) (s j)) (eq-eqb j b e)

    other : (j : ℕ) → (j ≡ b → ⊥) → with_pair a b s j ≡ s j
    other j ne = ap (λ t. cond t (Some a) (s j)) (ne_eqb j b ne)

    -- the pair's output ends no path, since its input has a load of w or more
    pub spare_heavy : (u : Mask) → a < n → w ≤ d.load a → holds u b ≡ false → ((k : ℕ) → (k ≡ b → ⊥) → holds u k ≡ holds m k) → Spare n d (partners (with_pair a b s)) w u
    spare_heavy u la heavy gone stays =
        record {
          held =
              λ j l e.
              elim (cases_eq j b) [
                | inl q ↦ subst (λ x. (x < n) × (w ≤ d.load x)) (sym (partners_some (with_pair a b s) a j (here j q))) (la, heavy)
                | inr ne ↦ carry s (with_pair a b s) j (sym (other j ne)) (spare.held j l (sym (stays j ne) ∙ e))
              ];
          free =
              λ j l e h.
              elim (cases_eq j b) [
                | inl q ↦ both_ways (holds u b) gone (ap (holds u) (sym q) ∙ e)
                | inr ne ↦ spare.free j l (sym (stays j ne) ∙ e) (carry (with_pair a b s) s j (other j ne) h)
              ];
        }

    -- the pair's output ends a path still, since its input has a smaller load
    pub spare_light : d.load a < w → ((s b ≡ None) ⊎ (s b ≡ Some a)) → Spare n d (partners (with_pair a b s)) w m
    spare_light light before =
        record {
          held =
              λ j l e.
              elim (cases_eq j b) [
                | inl q ↦ absurd (not_held (ap s q) (spare.held j l e))
                | inr ne ↦ carry s (with_pair a b s) j (sym (other j ne)) (spare.held j l e)
              ];
          free =
              λ j l e h.
              elim (cases_eq j b) [
                | inl q ↦ omega (arith, h.1, ap d.load (partners_some (with_pair a b s) a j (here j q)))
                | inr ne ↦ spare.free j l e (carry (with_pair a b s) s j (other j ne) h)
              ];
        }
      where
        not_held : {j : ℕ} → s j ≡ s b → Held n d (partners s) w j → ⊥
        not_held {j} same h =
            elim before [
              | inl none ↦ omega (arith, h.0, partners_none s j (same ∙ none))
              | inr some ↦ omega (arith, h.1, ap d.load (partners_some s a j (same ∙ some)))
            ]

module _ (s : Joins) (p q : ℕ) (x : Pair) (more : pairs_below s q ≡ pairs_below s p ++ x ∷ []) where
  -- the next pair is one of the setting's
  pub next_joined : s x.output ≡ Some x.input
  next_joined =
      (below_tell q s x.input x.output
      (ap (λ f. f x.output) (given_more s p q x more) ∙ ap (λ t. cond t (Some x.input) (below p s x.output)) (eq-eqb x.output x.output refl))).1

  -- its output is not among those given so far, or it is that very pair
  pub next_before : (below p s x.output ≡ None) ⊎ (below p s x.output ≡ Some x.input)
  next_before = go (ltb x.output p) refl
    where
      go : (t : Bool) → ltb x.output p ≡ t → (below p s x.output ≡ None) ⊎ (below p s x.output ≡ Some x.input)
      go true e = inr (ap (λ t. cond t (s x.output) None) e ∙ next_joined)
      go false e = inl (ap (λ t. cond t (s x.output) None) e)

-- ---- the same, found input by input

-- m are the outputs of which no input below i that is joined to one has a load of w or more
pub record Passed (n : ℕ) (d : Graph) (s : Partners) (w : ℕ) (m : Mask) (i : ℕ) : Type 0 where
  pub held : (j : ℕ) → j < n → holds m j ≡ false → Held n d s w j
  pub later : (j : ℕ) → j < n → holds m j ≡ true → Held n d s w j → i ≤ s j

pub passed_none : (n : ℕ) (d : Graph) (s : Partners) (w : ℕ) (m : Mask) → ((k : ℕ) → holds m k ≡ ltb k n) → Passed n d s w m 0
passed_none n d s w m every =
    record { held = λ j l e. absurd (both_ways (holds m j) e (every j ∙ lt-ltb j n l)); later = λ j l e h. omega arith }

module _ (n : ℕ) (d : Graph) (s t : Partners) (w : ℕ) (m : Mask) (i : ℕ) (p : Passed n d s w m i) (v : Inverse n s t) (li : i < n) where
  pub passed_skip : (w ≤ d.load i → t i < n → ⊥) → Passed n d s w m (i + 1)
  passed_skip no' =
      record {
        held = p.held;
        later =
            λ j l e h.
            elim (cases_eq (s j) i) [
              | inl q ↦ absurd (no' (subst (λ x. w ≤ d.load x) q h.1) (subst (λ x. x < n) (sym (v.there j l h.0) ∙ ap t q) l))
              | inr ne ↦ let low = p.later j l e h in omega arith
            ];
      }

  pub passed_more : (u : Mask) → w ≤ d.load i → t i < n → holds u (t i) ≡ false → ((k : ℕ) → (k ≡ t i → ⊥) → holds u k ≡ holds m k) → Passed n d s w u (i + 1)
  passed_more u hi ti gone others =
      record {
        held =
            λ j l e.
            elim (cases_eq j (t i)) [
              | inl q ↦ subst (λ x. (x < n) × (w ≤ d.load x)) (sym (ap s q ∙ v.back i li ti)) (li, hi)
              | inr ne ↦ p.held j l (sym (others j ne) ∙ e)
            ];
        later =
            λ j l e h.
            elim (cases_eq j (t i)) [
              | inl q ↦ absurd (both_ways (holds u (t i)) gone (ap (holds u) (sym q) ∙ e))
              | inr ne ↦
                  elim (cases_eq (s j) i) [
                    | inl q ↦ absurd (ne (sym (v.there j l h.0) ∙ ap t q))
                    | inr no' ↦ let low = p.later j l (sym (others j ne) ∙ e) h in omega arith
                  ]
            ];
      }

pub passed_all : (n : ℕ) (d : Graph) (s : Partners) (w : ℕ) (m : Mask) → Passed n d s w m n → Spare n d s w m
passed_all n d s w m p = record { held = p.held; free = λ j l e h. omega (arith, p.later j l e h, h.0) }
