-- How many outputs have a partner: counted from either side.
use Rattle.std.proofs.Common.{◌≡◌, ℕ, ◌<◌, ◌≤◌, Bool, true, false, cond, eqb, ltb, sym, refl, ap, ◌∙◌, inl, inr, arith}
use Rattle.std.proofs.lemmas.Bool.{cases_lt, eqb-true, eq-eqb, le-ltb, lt-ltb, ltb-true}
use Rattle.crossbar.specs.Sums.{total}
use Rattle.crossbar.proofs.Sums.{total_has, total_le, total_one}
use Rattle.policy.specs.Graphs.{Once, Partners}
use Rattle.policy.specs.Picked.{count, over}
use Rattle.policy.proofs.Counting.{flow, over_le}
use Rattle.policy.proofs.Turning.{Inverse}

-- 1 where a is b, and 0 elsewhere
pub same : ℕ → ℕ → ℕ
same a b = cond (eqb a b) 1 0

pub same_one : (a b : ℕ) → a ≡ b → same a b ≡ 1
unfolding same
same_one a b e = rw (eq-eqb a b e)

pub same_le : (a b : ℕ) → same a b ≤ 1
unfolding same
same_le a b = go (eqb a b)
  where
    go : (t : Bool) → cond t 1 0 ≤ 1
    go true = omega arith
    go false = omega arith

pub same_eq : (a b : ℕ) → 0 < same a b → a ≡ b
unfolding same
same_eq a b = go (eqb a b) (eqb-true a b)
  where
    go : (t : Bool) → (t ≡ true → a ≡ b) → 0 < cond t 1 0 → a ≡ b
    go true h l = h refl
    go false h l = omega arith

-- partners join the input i to at most one output below n
pub joins_le : (n : ℕ) (s : Partners) → Once n s → (i : ℕ) → i < n → total n (λ j. same (s j) i) ≤ 1
joins_le n s once i l =
    total_one n _ (λ j _. same_le (s j) i)
    (λ j k lj lk hj hk. let ej = same_eq (s j) i hj in let ek = same_eq (s k) i hk in once j k lj lk (omega arith) (omega arith))

-- how many outputs have a partner
abbrev pub partnered : ℕ → Partners → ℕ
partnered n s = count n (λ j. ltb (s j) n)

-- where every output with a partner keeps one, there are no fewer of them
pub partnered_le : (n : ℕ) (s t : Partners) → ((j : ℕ) → j < n → s j < n → t j < n) → partnered n s ≤ partnered n t
partnered_le n s t keeps = total_le n _ _ one
  where
    one : (j : ℕ) → j < n → cond (ltb (s j) n) 1 0 ≤ cond (ltb (t j) n) 1 0
    one j l =
        elim (cases_lt (s j) n) [
          | inl h ↦ omega (arith, ap (λ b. cond {A = ℕ} b 1 0) (lt-ltb (s j) n h), ap (λ b. cond {A = ℕ} b 1 0) (lt-ltb (t j) n (keeps j l h)))
          | inr g ↦ omega (arith, ap (λ b. cond {A = ℕ} b 1 0) (le-ltb (s j) n g))
        ]

-- each output with a partner is the partner of an input, and no two of the same
pub partnered_inverse : (n : ℕ) (s t : Partners) → Inverse n s t → partnered n s ≤ partnered n t
partnered_inverse n s t v =
    let p : ℕ → Bool = λ j. ltb (s j) n in
    let q : ℕ → Bool = λ i. ltb (t i) n in
    let each : count n p ≤ over n p (λ j. total n (λ i. same (s j) i)) =
    over_le p n _ _ (λ j l e. omega (arith, total_has n (λ i. same (s j) i) (s j) (ltb-true (s j) n e), same_one (s j) (s j) refl))
    in
    let turn : over n p (λ j. total n (λ i. same (s j) i)) ≤ over n q (λ i. total n (λ j. same (s j) i)) =
    flow n n (λ j i. same (s j) i) p q (λ j i l m e h. there j i l m (same_eq (s j) i h))
    in
    let few : over n q (λ i. total n (λ j. same (s j) i)) ≤ count n q = over_le q n _ _ (λ i l _. joins_le n s once i l) in
    omega arith
  where
    once : Once n s
    once j k lj lk h e = sym (v.there j lj h) ∙ ap t e ∙ v.there k lk (omega arith)

    there : (j i : ℕ) → j < n → i < n → s j ≡ i → ltb (t i) n ≡ true
    there j i l m e = lt-ltb (t i) n (omega (arith, v.there j l (omega arith), ap t e))
