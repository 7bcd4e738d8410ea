-- Sums over the ports that a set picks.
use Rattle.std.specs.Prelude.{ℕ, Bool, cond}
use Rattle.crossbar.specs.Sums.{total}

-- the sum of f over the numbers below n that p picks
abbrev pub over : ℕ → (ℕ → Bool) → (ℕ → ℕ) → ℕ
over n p f = total n (λ k. cond (p k) (f k) 0)

-- how many numbers below n p picks
abbrev pub count : ℕ → (ℕ → Bool) → ℕ
count n p = over n p (λ _. 1)
