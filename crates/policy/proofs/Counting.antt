-- Counting with sets of ports: sums over those that a set picks, and double counting.
use Rattle.std.proofs.Common.{◌≡◌, ℕ, zero, suc, ◌+◌, ◌*◌, ◌<◌, ◌≤◌, Bool, true, false, cond, sym, refl, ap, ◌∙◌, inl, inr, mul-add, arith}
use Rattle.std.proofs.lemmas.Bool.{cases_lt, false≢true}
use Rattle.crossbar.specs.Sums.{total}
use Rattle.crossbar.proofs.Sums.{total_add, total_le, total_none}
use Rattle.policy.specs.Picked.{count, over}

pub total_swap : (n m : ℕ) (f : ℕ → ℕ → ℕ) → total n (λ i. total m (λ j. f i j)) ≡ total m (λ j. total n (λ i. f i j))
unfolding total
total_swap zero m f = sym (total_none m)
total_swap (suc n) m f =
    ap (λ x. x + total m (f n)) (total_swap n m f) ∙ sym (total_add m (λ j. total n (λ i. f i j)) (f n))

pub total_lt : (n : ℕ) (f g : ℕ → ℕ) (a : ℕ) → ((k : ℕ) → k < n → f k ≤ g k) → a < n → f a < g a → total n f < total n g
unfolding total
total_lt zero f g a h l s = omega arith
total_lt (suc n) f g a h l s =
    let low : (k : ℕ) → k < n → f k ≤ g k = λ k m. h k (omega arith) in
    elim (cases_lt a n) [
      | inl m ↦ omega (arith, total_lt n f g a low m s, h n (omega arith))
      | inr m ↦ let e : a ≡ n = omega arith in omega (arith, ap f e, ap g e, total_le n f g low)
    ]

cond_le : (b : Bool) (x y : ℕ) → (b ≡ true → x ≤ y) → cond b x 0 ≤ cond b y 0
cond_le true x y h = h refl
cond_le false x y h = omega arith

module _ (p : ℕ → Bool) where
  pub over_le : (n : ℕ) (f g : ℕ → ℕ) → ((k : ℕ) → k < n → p k ≡ true → f k ≤ g k) → over n p f ≤ over n p g
  over_le n f g h = total_le n _ _ (λ k l. cond_le (p k) (f k) (g k) (h k l))

  pub over_lt : (n : ℕ) (f g : ℕ → ℕ) (a : ℕ) → ((k : ℕ) → k < n → p k ≡ true → f k ≤ g k) → a < n → p a ≡ true → f a < g a → over n p f < over n p g
  over_lt n f g a h l e s = total_lt n _ _ a (λ k m. cond_le (p k) (f k) (g k) (h k m)) l (rw e s)

  pub over_const : (n c : ℕ) → over n p (λ _. c) ≡ c * count n p
  unfolding total
  over_const zero c = omega arith
  over_const (suc n) c = pick (p n) _ _ (over_const n c)
    where
      pick : (b : Bool) (t u : ℕ) → t ≡ c * u → t + cond b c 0 ≡ c * (u + cond b 1 0)
      pick true t u e = omega (arith, mul-add c u 1)
      pick false t u e = omega arith

-- Double counting: where a row that p picks has only zeros outside the columns that q picks, the rows of p sum to no more than the columns of q.
pub flow : (n m : ℕ) (f : ℕ → ℕ → ℕ) (p q : ℕ → Bool) → ((i j : ℕ) → i < n → j < m → p i ≡ true → 0 < f i j → q j ≡ true) → over n p (λ i. total m (f i)) ≤ over m q (λ j. total n (λ i. f i j))
flow n m f p q h =
    let rows : over n p (λ i. total m (f i)) ≤ total n (λ i. total m (λ j. cond (q j) (f i j) 0)) = total_le n _ _ (λ i l. row (p i) (λ j k. h i j l k)) in
    let cols : total m (λ j. total n (λ i. cond (q j) (f i j) 0)) ≤ over m q (λ j. total n (λ i. f i j)) = total_le m _ _ (λ j l. column (q j) (λ i. f i j)) in
    omega (arith, total_swap n m (λ i j. cond (q j) (f i j) 0))
  where
    cell : (b : Bool) (x : ℕ) → (0 < x → b ≡ true) → x ≤ cond b x 0
    cell true x h = omega arith
    cell false x h = elim (cases_lt 0 x) [ inl l ↦ absurd (false≢true (h l)) | inr g ↦ g ]

    row : {i : ℕ} (b : Bool) → ((j : ℕ) → j < m → b ≡ true → 0 < f i j → q j ≡ true) → cond b (total m (f i)) 0 ≤ total m (λ j. cond (q j) (f i j) 0)
    row {i} true h = total_le m _ _ (λ j l. cell (q j) (f i j) (h j l refl))
    row false h = omega arith

    column : (b : Bool) (g : ℕ → ℕ) → total n (λ i. cond b (g i) 0) ≤ cond b (total n g) 0
    column true g = omega arith
    column false g = omega (arith, total_none n)

pub total_ones : (n : ℕ) → total n (λ _. 1) ≡ n
unfolding total
total_ones zero = refl
total_ones (suc n) = omega (arith, total_ones n)
