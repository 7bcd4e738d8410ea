-- Freeing an output, and moving an input to another output.
use Rattle.std.proofs.Common.{◌≡◌, ℕ, ◌<◌, ◌⊎◌, true, not, cond, is_some, Some, None, Option, sym, refl, ap, ◌∙◌, inl, inr, arith, MatchOption}
use mathlib.Core.Path.{fun_ext}
use Rattle.std.proofs.lemmas.Bool.{and_from, cases_eq, eq-eqb, lt-ltb, ne_eqb}
use Rattle.crossbar.specs.Joining.{but_input, freed, Joins, moved, with_pair}
use Rattle.crossbar.specs.Models.{input_at, joinable, output_at}
use Rattle.crossbar.specs.declared.port.Pair.{Pair}
use Rattle.crossbar.specs.declared.setting.Setting.{Setting}
use Rattle.crossbar.proofs.Joins.{output_joined, setting_rule}

-- ---- the arrays

-- ---- freeing

pub freed_here : (s : Joins) (b j : ℕ) → j ≡ b → freed b s j ≡ None
freed_here s b j e = ap (λ t. cond t None (s j)) (eq-eqb j b e)

pub freed_other : (s : Joins) (b j : ℕ) → (j ≡ b → ⊥) → freed b s j ≡ s j
freed_other s b j ne = ap (λ t. cond t None (s j)) (ne_eqb j b ne)

-- ---- moving

pub moved_here : (s : Joins) (a b j : ℕ) → j ≡ b → moved a b s j ≡ Some a
moved_here s a b j e = ap (λ t. cond t (Some a) (but_input a (s j))) (eq-eqb j b e)

moved_past : (s : Joins) (a b j : ℕ) → (j ≡ b → ⊥) → moved a b s j ≡ but_input a (s j)
moved_past s a b j ne = ap (λ t. cond t (Some a) (but_input a (s j))) (ne_eqb j b ne)

-- the output that the input had is free
pub moved_left : (s : Joins) (a b j : ℕ) → (j ≡ b → ⊥) → s j ≡ Some a → moved a b s j ≡ None
moved_left s a b j ne e = moved_past s a b j ne ∙ ap (but_input a) e ∙ ap (λ t. cond t None (Some a)) (eq-eqb a a refl)

-- an output that had neither
pub moved_other : (s : Joins) (a b j : ℕ) → (j ≡ b → ⊥) → (s j ≡ Some a → ⊥) → moved a b s j ≡ s j
moved_other s a b j ne no' = moved_past s a b j ne ∙ go (s j) refl
  where
    go : (o : Option ℕ) → s j ≡ o → but_input a o ≡ o
    go None e = refl
    go (Some i) e = ap (λ t. cond t None (Some i)) (ne_eqb i a (λ q. no' (e ∙ ap Some q)))

-- ---- joining a pair whose ports are free

free_output : (s : Setting) (i : ℕ) → ((j : ℕ) → input_at s j ≡ Some i → ⊥) → output_at s i ≡ None
free_output s i alone = go (output_at s i) (output_joined s i)
  where
    go : (o : Option ℕ) → MatchOption o ((j : ℕ) → input_at s j ≡ Some i → ⊥) (λ j. input_at s j ≡ Some i) → o ≡ None
    go None h = refl
    go (Some j) h = absurd (alone j h)

pub joinable_free : (s : Setting) (p : Pair) → p.input < 16 → p.output < 16 → ((j : ℕ) → input_at s j ≡ Some p.input → ⊥) → input_at s p.output ≡ None → joinable s p ≡ true
joinable_free s p li lo alone none =
    and_from _ _
    (and_from _ _
    (and_from _ _ (lt-ltb p.input 16 li) (lt-ltb p.output 16 lo))
    (ap (λ o. not (is_some o)) (free_output s p.input alone)))
    (ap (λ o. not (is_some o)) none)

-- once both ports are free, joining them is moving
module _ (s : Setting) (a : ℕ) where
  -- freed of the output that the input had, if any
  pub record Apart (t : Joins) : Type 0 where
    pub unjoined : (j : ℕ) → t j ≡ Some a → ⊥
    pub left : (j : ℕ) → input_at s j ≡ Some a → t j ≡ None
    pub others : (j : ℕ) → (input_at s j ≡ Some a → ⊥) → t j ≡ input_at s j

  pub apart_none : ((j : ℕ) → input_at s j ≡ Some a → ⊥) → Apart (input_at s)
  apart_none h = record { unjoined = h; left = λ j e. absurd (h j e); others = λ j _. refl }

  pub apart_some : (j : ℕ) → input_at s j ≡ Some a → Apart (freed j (input_at s))
  apart_some j joined =
      record {
        unjoined =
            λ k e.
            elim (cases_eq k j) [
              | inl q ↦
                  let none : freed j (input_at s) k ≡ None = freed_here (input_at s) j k q in
                  let z : ◌≡◌ {A = ℕ} 0 1 = cc in
                  omega arith
              | inr q ↦ q ((setting_rule s).once a k j (sym (freed_other (input_at s) j k q) ∙ e) joined)
            ];
        left = λ k e. freed_here (input_at s) j k ((setting_rule s).once a k j e joined);
        others = λ k no'. freed_other (input_at s) j k (λ q. no' (ap (input_at s) q ∙ joined));
      }

  module _ (b : ℕ) (t : Joins) (apart : Apart t) where
    pub apart_moved : with_pair a b (freed b t) ≡ moved a b (input_at s)
    apart_moved = fun_ext at
      where
        past : (j : ℕ) (o : Option ℕ) → input_at s j ≡ o → t j ≡ but_input a o
        past j None e = apart.others j (λ f. let z : ◌≡◌ {A = ℕ} 0 1 = cc in omega arith) ∙ e
        past j (Some i) e =
            elim (cases_eq i a) [
              | inl q ↦ apart.left j (e ∙ ap Some q) ∙ sym (ap (λ x. cond x None (Some i)) (eq-eqb i a q))
              | inr q ↦ apart.others j (λ f. let same : i ≡ a = cc in q same) ∙ e ∙ sym (ap (λ x. cond x None (Some i)) (ne_eqb i a q))
            ]

        at : (j : ℕ) → with_pair a b (freed b t) j ≡ moved a b (input_at s) j
        at j =
            elim (cases_eq j b) [
              | inl q ↦ ap (λ x. cond x (Some a) (freed b t j)) (eq-eqb j b q) ∙ sym (moved_here (input_at s) a b j q)
              | inr q ↦
                  ap (λ x. cond x (Some a) (freed b t j)) (ne_eqb j b q)
                  ∙ freed_other t b j q
                  ∙ past j (input_at s j) refl
                  ∙ sym (moved_past (input_at s) a b j q)
            ]

    -- the two ports can be joined then
    pub apart_joinable : (u : Setting) → a < 16 → b < 16 → input_at u ≡ freed b t → joinable u (record { input = a; output = b }) ≡ true
    apart_joinable u la lb is =
        joinable_free u (record { input = a; output = b }) la lb taken (ap (λ f. f b) is ∙ freed_here t b b refl)
      where
        taken : (j : ℕ) → input_at u j ≡ Some a → ⊥
        taken j e =
            elim (cases_eq j b) [
              | inl q ↦
                  let none : input_at u j ≡ None = ap (λ f. f j) is ∙ freed_here t b j q in
                  let z : ◌≡◌ {A = ℕ} 0 1 = cc in
                  omega arith
              | inr q ↦ apart.unjoined j (sym (ap (λ f. f j) is ∙ freed_other t b j q) ∙ e)
            ]

-- what a joined output tells after a move
pub moved_tell : (s : Joins) (a b i j : ℕ) → moved a b s j ≡ Some i → ((j ≡ b) × (i ≡ a)) ⊎ ((s j ≡ Some i) × (i ≡ a → ⊥))
moved_tell s a b i j e =
    elim (cases_eq j b) [
      | inl q ↦ let told = moved_here s a b j q in let same : i ≡ a = cc in inl (q, same)
      | inr q ↦ inr (past (s j) refl (sym (moved_past s a b j q) ∙ e))
    ]
  where
    past : (o : Option ℕ) → s j ≡ o → but_input a o ≡ Some i → (s j ≡ Some i) × (i ≡ a → ⊥)
    past None is f = let z : ◌≡◌ {A = ℕ} 0 1 = cc in absurd (omega arith)
    past (Some x) is f =
        elim (cases_eq x a) [
          | inl q ↦
              let none : but_input a (Some x) ≡ None = ap (λ t. cond t None (Some x)) (eq-eqb x a q) in
              let z : ◌≡◌ {A = ℕ} 0 1 = cc in
              absurd (omega arith)
          | inr q ↦
              let kept : but_input a (Some x) ≡ Some x = ap (λ t. cond t None (Some x)) (ne_eqb x a q) in
              let same : x ≡ i = cc in
              (is ∙ ap Some same, λ r. q (same ∙ r))
        ]
