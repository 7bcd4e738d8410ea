-- The laws of sums and of the largest below n.
use Rattle.std.proofs.Common.{◌≡◌, ℕ, zero, suc, ◌+◌, ◌-◌, ◌*◌, ◌<◌, ◌≤◌, cond, eqb, sym, refl, ap, ◌∙◌, inl, inr, mul-zero, mul-add, arith}
use Rattle.std.proofs.lemmas.Bool.{cases_lt, eq-eqb}
use Rattle.std.proofs.lemmas.Bool.Decides.{nat_tests}
use Rattle.crossbar.specs.Sums.{total, largest}

pub total_le : (n : ℕ) (f g : ℕ → ℕ) → ((k : ℕ) → k < n → f k ≤ g k) → total n f ≤ total n g
unfolding total
total_le zero f g h = omega arith
total_le (suc n) f g h = omega (arith, total_le n f g (λ k l. h k (omega arith)), h n (omega arith))

pub total_same : (n : ℕ) (f g : ℕ → ℕ) → ((k : ℕ) → k < n → f k ≡ g k) → total n f ≡ total n g
unfolding total
total_same zero f g h = refl
total_same (suc n) f g h = omega (arith, total_same n f g (λ k l. h k (omega arith)), h n (omega arith))

pub total_none : (n : ℕ) → total n (λ _. 0) ≡ 0
unfolding total
total_none zero = refl
total_none (suc n) = omega (arith, total_none n)

pub total_zeros : (n : ℕ) (f : ℕ → ℕ) → ((k : ℕ) → k < n → f k ≡ 0) → total n f ≡ 0
total_zeros n f h = total_same n f (λ _. 0) h ∙ total_none n

pub total_add : (n : ℕ) (f g : ℕ → ℕ) → total n (λ k. f k + g k) ≡ total n f + total n g
unfolding total
total_add zero f g = omega arith
total_add (suc n) f g = omega (arith, total_add n f g)

pub total_times : (n k : ℕ) (f : ℕ → ℕ) → total n (λ j. k * f j) ≡ k * total n f
unfolding total
total_times zero k f = sym (mul-zero k)
total_times (suc n) k f = ap (λ x. x + k * f n) (total_times n k f) ∙ sym (mul-add k (total n f) (f n))

-- one summand is at most the sum
pub total_has : (n : ℕ) (f : ℕ → ℕ) (a : ℕ) → a < n → f a ≤ total n f
unfolding total
total_has zero f a h = omega arith
total_has (suc n) f a h =
    elim (cases_lt a n) [
      | inl l ↦ omega (arith, total_has n f a l)
      | inr g ↦ let e : a ≡ n = omega arith in omega (arith, ap f e)
    ]

-- summands of which none passes 1 and no two are above 0
pub total_one : (n : ℕ) (f : ℕ → ℕ) → ((k : ℕ) → k < n → f k ≤ 1) → ((j k : ℕ) → j < n → k < n → 0 < f j → 0 < f k → j ≡ k) → total n f ≤ 1
unfolding total
total_one zero f h u = omega arith
total_one (suc n) f h u =
    elim (cases_lt 0 (f n)) [
      | inl m ↦
          let none : (k : ℕ) → k < n → f k ≡ 0 =
          λ k l.
          elim (cases_lt 0 (f k)) [
            | inl o ↦ omega (arith, u k n (omega arith) (omega arith) o m)
            | inr o ↦ omega arith
          ]
          in
          omega (arith, total_zeros n f none, h n (omega arith))
      | inr m ↦ omega (arith, total_one n f (λ k l. h k (omega arith)) (λ j k l o. u j k (omega arith) (omega arith)))
    ]

-- what is taken from a sum, summand by summand
pub total_less : (n : ℕ) (f g : ℕ → ℕ) → total n f ≤ total n (λ k. f k - g k) + total n g
total_less n f g = omega (arith, total_le n f (λ k. f k - g k + g k) (λ k h. omega arith), total_add n (λ k. f k - g k) g)

pub total_less_exact : (n : ℕ) (f g : ℕ → ℕ) → ((k : ℕ) → k < n → g k ≤ f k) → total n (λ k. f k - g k) + total n g ≡ total n f
total_less_exact n f g h =
    sym (total_add n (λ k. f k - g k) g) ∙ total_same n (λ k. f k - g k + g k) f (λ k l. omega (arith, h k l))

-- the summand at one place is 1 and the others are 0
pub total_single : (n a : ℕ) → a < n → total n (λ k. cond (eqb k a) 1 0) ≡ 1
total_single n a h =
    let here : cond {A = ℕ} (eqb a a) 1 0 ≡ 1 = ap (λ b. cond {A = ℕ} b 1 0) (eq-eqb a a refl) in
    let most = total_one n (λ k. cond (eqb k a) 1 0) (λ k l. grind (arith, nat_tests)) (λ j k l m p q. grind (arith, nat_tests)) in
    omega (arith, most, total_has n (λ k. cond (eqb k a) 1 0) a h)

pub largest_has : (n : ℕ) (f : ℕ → ℕ) (k : ℕ) → k < n → f k ≤ largest n f
unfolding largest
largest_has zero f k h = omega arith
largest_has (suc n) f k h =
    elim (cases_lt k n) [
      | inl l ↦ omega (arith, largest_has n f k l)
      | inr g ↦ let e : k ≡ n = omega arith in omega (arith, ap f e)
    ]

pub largest_le : (n : ℕ) (f : ℕ → ℕ) (b : ℕ) → ((k : ℕ) → k < n → f k ≤ b) → largest n f ≤ b
unfolding largest
largest_le zero f b h = omega arith
largest_le (suc n) f b h = omega (arith, largest_le n f b (λ k l. h k (omega arith)), h n (omega arith))
