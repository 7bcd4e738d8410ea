-- What the pairs tell that a setting has given so far.
use Rattle.std.proofs.Common.{◌≡◌, ℕ, zero, suc, ◌+◌, ◌<◌, ◌≤◌, Bool, true, false, cond, eqb, List, [], ◌∷◌, ◌++◌, Some, None, Option, sym, refl, ap, ◌∙◌, inl, inr, add-one, arith}
use mathlib.Core.Path.{fun_ext}
use Rattle.std.proofs.lemmas.Bool.{cases_eq, cases_lt, eq-eqb, ne_eqb}
use Rattle.crossbar.specs.Joining.{Joins, pairs_below, with_pair}
use Rattle.crossbar.specs.declared.port.Pair.{Pair}
use Rattle.crossbar.specs.Models.{given_by, input_at}
use Rattle.crossbar.specs.declared.setting.Setting.{Setting}
use Rattle.crossbar.specs.declared.setting.pairs.Pairs.{Pairs}
use Rattle.crossbar.proofs.Joins.{joined_past, pairs_none, pairs_some}
use Rattle.crossbar.proofs.Serving.{below, below_all, below_no, below_yes}

-- what is joined below k is joined
pub below_tell : (k : ℕ) (s : Joins) (i j : ℕ) → below k s j ≡ Some i → (j < k) × (s j ≡ Some i)
below_tell k s i j e =
    elim (cases_lt j k) [
      | inl l ↦ (l, sym (below_yes k s j l) ∙ e)
      | inr g ↦
          let none = below_no k s j g in
          let z : ◌≡◌ {A = ℕ} 0 1 = cc in
          absurd (omega arith)
    ]

-- every output but k is the same below k and below k + 1
below_other : (s : Joins) (k j : ℕ) → (j ≡ k → ⊥) → below k s j ≡ below (k + 1) s j
below_other s k j ne =
    elim (cases_lt j k) [
      | inl l ↦ below_yes k s j l ∙ sym (below_yes (k + 1) s j (omega arith))
      | inr g ↦ below_no k s j g ∙ sym (below_no (k + 1) s j (omega arith))
    ]

or_else : Option ℕ → Option ℕ → Option ℕ
or_else None o = o
or_else (Some i) o = Some i

-- what a list of pairs joins, the last pair of an output before the others
listed : List Pair → Joins
listed [] j = None
listed (x ∷ xs) j = or_else (listed xs j) (cond (eqb j x.output) (Some x.input) None)

listed_more : (xs : List Pair) (x : Pair) (j : ℕ) → listed (xs ++ x ∷ []) j ≡ with_pair x.input x.output (listed xs) j
unfolding listed or_else
listed_more [] x j = refl
listed_more (y ∷ ys) x j =
    ap (λ o. or_else o (cond (eqb j y.output) (Some y.input) None)) (listed_more ys x j)
    ∙ go (eqb j x.output) (listed ys j) (cond (eqb j y.output) (Some y.input) None)
  where
    go : (t : Bool) (o l : Option ℕ) → or_else (cond t (Some x.input) o) l ≡ cond t (Some x.input) (or_else o l)
    go true o l = refl
    go false o l = refl

listed_below : (s : Joins) (k j : ℕ) → listed (pairs_below s k) j ≡ below k s j
unfolding listed pairs_below
listed_below s zero j = sym (below_no 0 s j (omega arith))
listed_below s (suc k) j = ap (λ m. listed (pairs_below s m) j) (sym (add-one k)) ∙ next (listed_below s k j) (s k) refl ∙ ap (λ m. below m s j) (add-one k)
  where
    next : listed (pairs_below s k) j ≡ below k s j → (o : Option ℕ) → s k ≡ o → listed (pairs_below s (k + 1)) j ≡ below (k + 1) s j
    next old None e =
        ap (λ xs. listed xs j) (pairs_none s k e)
        ∙ old
        ∙ elim (cases_eq j k) [
          | inl q ↦ below_no k s j (omega arith) ∙ sym (below_yes (k + 1) s j (omega arith) ∙ ap s q ∙ e)
          | inr q ↦ below_other s k j q
        ]
    next old (Some a) e =
        ap (λ xs. listed xs j) (pairs_some s k a e)
        ∙ listed_more (pairs_below s k) (record { input = a; output = k }) j
        ∙ elim (cases_eq j k) [
          | inl q ↦ ap (λ t. cond t (Some a) (listed (pairs_below s k) j)) (eq-eqb j k q) ∙ sym (below_yes (k + 1) s j (omega arith) ∙ ap s q ∙ e)
          | inr q ↦ ap (λ t. cond t (Some a) (listed (pairs_below s k) j)) (ne_eqb j k q) ∙ old ∙ below_other s k j q
        ]

-- settings that have given the same pairs
same_given : (s : Joins) (p q : ℕ) → pairs_below s p ≡ pairs_below s q → below p s ≡ below q s
same_given s p q e = fun_ext (λ j. sym (listed_below s p j) ∙ ap (λ xs. listed xs j) e ∙ listed_below s q j)

-- an output that is free adds nothing
pub below_more_none : (s : Joins) (k : ℕ) → s k ≡ None → below k s ≡ below (k + 1) s
below_more_none s k free = same_given s k (k + 1) (sym (pairs_none s k free))

pub given_none : (s : Joins) (p : ℕ) → pairs_below s p ≡ [] → below p s ≡ (λ j. None)
unfolding pairs_below
given_none s p e = same_given s p 0 e ∙ fun_ext (λ j. below_no 0 s j (omega arith))

pub given_more : (s : Joins) (p q : ℕ) (x : Pair) → pairs_below s q ≡ pairs_below s p ++ x ∷ [] → below q s ≡ with_pair x.input x.output (below p s)
given_more s p q x e =
    fun_ext (λ j.
    sym (listed_below s q j)
    ∙ ap (λ xs. listed xs j) e
    ∙ listed_more (pairs_below s p) x j
    ∙ ap (λ o. cond (eqb j x.output) (Some x.input) o) (listed_below s p j))

-- where every pair has been given
pub given_all : (s : Joins) → ((j : ℕ) → 16 ≤ j → s j ≡ None) → (p : ℕ) → pairs_below s p ≡ pairs_below s 16 → below p s ≡ s
given_all s past p e = same_given s p 16 e ∙ below_all 16 s past

-- ---- an iterator over the pairs of the setting s

module _ (s : Setting) where
  pub given_first : (it from : Pairs) → it ≡ from → from.setting.now ≡ s → given_by from ≡ [] → (it.setting.now ≡ s) × (below it.output (input_at s) ≡ (λ j. None))
  given_first it from e same none =
      let is : it.setting.now ≡ s = ap (λ (p : Pairs). p.setting.now) e ∙ same in (
        is,
        given_none (input_at s) it.output (ap (λ x. pairs_below (input_at x) it.output) (sym is) ∙ ap given_by e ∙ none),
      )

  pub given_next : (it next : Pairs) (x : Pair) → it.setting.now ≡ s → next.setting.now ≡ it.setting.now → given_by next ≡ given_by it ++ x ∷ [] → pairs_below (input_at s) next.output ≡ pairs_below (input_at s) it.output ++ x ∷ []
  given_next it next x here same more =
      ap (λ y. pairs_below (input_at y) next.output) (sym (same ∙ here)) ∙ more ∙ ap (λ y. pairs_below (input_at y) it.output ++ x ∷ []) here

  pub given_last : (it : Pairs) → it.setting.now ≡ s → given_by it ≡ pairs_below (input_at it.setting.now) 16 → below it.output (input_at s) ≡ input_at s
  given_last it here all =
      given_all (input_at s) (joined_past s) it.output
      (ap (λ y. pairs_below (input_at y) it.output) (sym here) ∙ all ∙ ap (λ y. pairs_below (input_at y) 16) here)
