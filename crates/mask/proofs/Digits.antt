-- The bits of and, or, exclusive or, powers of two and trailing zeros.
use Rattle.std.proofs.Common.{◌≡◌, ℕ, zero, suc, ◌+◌, ◌-◌, ◌*◌, ◌/◌, ◌%◌, ◌^◌, ◌<◌, ◌≤◌, min, max, Bool, true, false, cond, not, ◌&&◌, ◌||◌, eqb, ltb, sym, refl, ap, ◌∙◌, inl, inr, div-one, one-add, arith}
use lib.Bits.{bit_and, bit_or, bit_xor, differ, and_step, or_step, xor_step, and_shr, or_shr, xor_shr}
use lib.Pow.{ones_split, high}
use lib.Count.{count_trailing_zeros, under}
use Rattle.std.proofs.lemmas.Bool.{and_from, and_left, and_right, both_ways, cases_eq, cases_lt, cases_order, eq-eqb, false≢true, le-ltb, lt-ltb, ne_eqb}
use Rattle.std.proofs.lemmas.Nat.{pow-add, shl-shr, shr-shr, pow_pos, pow_below, div_below}
use Rattle.mask.specs.Bits.{bit}

-- a test of two digits, from its four cases
two : (f : ℕ → ℕ → ℕ) (g : Bool → Bool → Bool)
    → (f 0 0 < 2) × (f 0 1 < 2) × (f 1 0 < 2) × (f 1 1 < 2)
    → (eqb (f 0 0) 1 ≡ g false false) × (eqb (f 0 1) 1 ≡ g false true) × (eqb (f 1 0) 1 ≡ g true false) × (eqb (f 1 1) 1 ≡ g true true)
    → (a b : ℕ) → a < 2 → b < 2 → (f a b < 2) × (eqb (f a b) 1 ≡ g (eqb a 1) (eqb b 1))
two f g s e zero zero l m = (s.0, e.0)
two f g s e zero (suc zero) l m = (s.1, e.1)
two f g s e zero (suc (suc b)) l m = absurd (omega arith)
two f g s e (suc zero) zero l m = (s.2, e.2)
two f g s e (suc zero) (suc zero) l m = (s.3, e.3)
two f g s e (suc zero) (suc (suc b)) l m = absurd (omega arith)
two f g s e (suc (suc a)) b l m = absurd (omega arith)

low : (x y : ℕ) → y < 2 → (x * 2 + y) % 2 ≡ y
low x y l = omega arith

-- an operation on numbers that is f on each digit is g on each place
by_digit : (op f : ℕ → ℕ → ℕ) (g : Bool → Bool → Bool)
    → ((a b k : ℕ) → op a b / 2 ^ k ≡ op (a / 2 ^ k) (b / 2 ^ k))
    → ((a b : ℕ) → op a b ≡ op (a / 2) (b / 2) * 2 + f (a % 2) (b % 2))
    → (f 0 0 < 2) × (f 0 1 < 2) × (f 1 0 < 2) × (f 1 1 < 2)
    → (eqb (f 0 0) 1 ≡ g false false) × (eqb (f 0 1) 1 ≡ g false true) × (eqb (f 1 0) 1 ≡ g true false) × (eqb (f 1 1) 1 ≡ g true true)
    → (a b k : ℕ) → bit (op a b) k ≡ g (bit a k) (bit b k)
unfolding bit
by_digit op f g shr step s e a b k =
    let x : ℕ = a / 2 ^ k in
    let y : ℕ = b / 2 ^ k in
    let (small, same) = two f g s e (x % 2) (y % 2) (omega arith) (omega arith) in
    ap (λ n. eqb (n % 2) 1) (shr a b k) ∙ ap (λ n. eqb (n % 2) 1) (step x y) ∙ ap (λ n. eqb n 1) (low (op (x / 2) (y / 2)) (f (x % 2) (y % 2)) small) ∙ same

pub and_bit : (a b k : ℕ) → bit (bit_and a b) k ≡ (bit a k && bit b k)
and_bit = by_digit bit_and min ◌&&◌ and_shr and_step (omega arith, omega arith, omega arith, omega arith) (refl, refl, refl, refl)

pub or_bit : (a b k : ℕ) → bit (bit_or a b) k ≡ (bit a k || bit b k)
or_bit = by_digit bit_or max ◌||◌ or_shr or_step (omega arith, omega arith, omega arith, omega arith) (refl, refl, refl, refl)

abbrev unlike : Bool → Bool → Bool
unlike true b = not b
unlike false b = b

pub xor_bit : (a b k : ℕ) → bit (bit_xor a b) k ≡ unlike (bit a k) (bit b k)
xor_bit = by_digit bit_xor differ unlike xor_shr xor_step (omega arith, omega arith, omega arith, omega arith) (refl, refl, refl, refl)

-- without
without_bool : (a b : Bool) → unlike a (a && b) ≡ (a && not b)
without_bool true true = refl
without_bool true false = refl
without_bool false b = refl

-- a port that is in a and not in b: what is left of a without b
pub minus_bit : (a b k : ℕ) → bit (bit_xor a (bit_and a b)) k ≡ (bit a k && not (bit b k))
minus_bit a b k = xor_bit a (bit_and a b) k ∙ ap (unlike (bit a k)) (and_bit a b k) ∙ without_bool (bit a k) (bit b k)

pub zero_bit : (k : ℕ) → bit 0 k ≡ false
unfolding bit
zero_bit k = let q : 0 / 2 ^ k < 1 = div_below 0 (2 ^ k) 1 (pow_pos k) (omega (arith, pow_pos k)) in ne_eqb _ _ (omega arith)

pub same_bit : (j : ℕ) → bit (2 ^ j) j ≡ true
unfolding bit
same_bit j =
    let q : 1 * 2 ^ j / 2 ^ j ≡ 1 = shl-shr 1 j in
    let r : 1 * 2 ^ j ≡ 2 ^ j = omega arith in
    let s : 2 ^ j / 2 ^ j ≡ 1 = ap (λ n. n / 2 ^ j) (sym r) ∙ q in
    eq-eqb _ _ (omega arith)

-- a number below 2 ^ k has not k
pub below_bit : (a k : ℕ) → a < 2 ^ k → bit a k ≡ false
unfolding bit
below_bit a k l = let q : a / 2 ^ k < 1 = div_below a (2 ^ k) 1 (pow_pos k) (omega arith) in ne_eqb _ _ (omega arith)

high_bit : (a j : ℕ) → j < a → bit (2 ^ a) j ≡ false
unfolding bit
high_bit a j h =
    let e : a ≡ (a - (j + 1) + 1) + j = omega arith in
    let p : 2 ^ a ≡ 2 ^ (a - (j + 1) + 1) * 2 ^ j = ap (λ n. 2 ^ n) e ∙ pow-add 2 (a - (j + 1) + 1) j in
    let q : 2 ^ a / 2 ^ j ≡ 2 ^ (a - (j + 1) + 1) = ap (λ n. n / 2 ^ j) p ∙ shl-shr (2 ^ (a - (j + 1) + 1)) j in
    let r : 2 ^ (a - (j + 1) + 1) ≡ 2 ^ (a - (j + 1)) * 2 ^ 1 = pow-add 2 (a - (j + 1)) 1 in
    ne_eqb _ _ (omega arith)

pub other_bit : (j k : ℕ) → (k ≡ j → ⊥) → bit (2 ^ j) k ≡ false
other_bit j k ne =
    elim (cases_order k j) [
      | inl e ↦ absurd (ne e)
      | inr (inl l) ↦ high_bit j k l
      | inr (inr l) ↦ below_bit (2 ^ j) k (pow_below j k l)
    ]

-- the numbers below n
ones_in : (n k : ℕ) → k < n → bit (2 ^ n - 1) k ≡ true
unfolding bit
ones_in n k l =
    let i : ℕ = n - (k + 1) in
    let e : n ≡ (i + 1) + k = omega arith in
    let p : 2 ^ n - 1 ≡ (2 ^ (i + 1) - 1) * 2 ^ k + (2 ^ k - 1) = ap (λ x. 2 ^ x - 1) e ∙ ones_split (i + 1) k in
    let q : (2 ^ n - 1) / 2 ^ k ≡ 2 ^ (i + 1) - 1 = ap (λ x. x / 2 ^ k) p ∙ high (2 ^ (i + 1) - 1) k (omega (arith, pow_pos k)) in
    let r : 2 ^ (i + 1) ≡ 2 ^ i * 2 ^ 1 = pow-add 2 i 1 in
    eq-eqb _ _ (omega (arith, pow_pos i))

pow_le : (n k : ℕ) → n ≤ k → 2 ^ n ≤ 2 ^ k
pow_le n k l = elim (cases_eq n k) [ inl e ↦ omega (arith, ap (λ x. 2 ^ x) e) | inr ne ↦ omega (arith, pow_below n k (omega arith)) ]

pub ones_bit : (n k : ℕ) → bit (2 ^ n - 1) k ≡ ltb k n
ones_bit n k =
    elim (cases_lt k n) [
      | inl l ↦ ones_in n k l ∙ sym (lt-ltb k n l)
      | inr l ↦ below_bit (2 ^ n - 1) k (omega (arith, pow_le n k l, pow_pos n)) ∙ sym (le-ltb k n l)
    ]

-- trailing zeros
bit_first : (q : ℕ) → bit q 0 ≡ eqb (q % 2) 1
unfolding bit
bit_first q = ap (λ n. eqb (n % 2) 1) (div-one q)

bit_next : (q k : ℕ) → bit q (suc k) ≡ bit (q / 2) k
unfolding bit
bit_next q k = ap (λ n. eqb (n % 2) 1) (ap (λ e. q / 2 ^ e) (sym (one-add k)) ∙ sym (shr-shr q 1 k))

pub trailing_in : (d q : ℕ) → count_trailing_zeros d q < d → bit q (count_trailing_zeros d q) ≡ true
unfolding count_trailing_zeros
trailing_in zero q l = absurd (omega arith)
trailing_in (suc d) q l = go (q % 2) refl (trailing_in d (q / 2)) l
  where
    go : (r : ℕ) → q % 2 ≡ r → (count_trailing_zeros d (q / 2) < d → bit (q / 2) (count_trailing_zeros d (q / 2)) ≡ true) → under r (count_trailing_zeros d (q / 2)) < suc d → bit q (under r (count_trailing_zeros d (q / 2))) ≡ true
    go zero e rest m = bit_next q (count_trailing_zeros d (q / 2)) ∙ rest (omega arith)
    go (suc r) e rest m = bit_first q ∙ eq-eqb (q % 2) 1 (omega arith)

pub trailing_below : (d q k : ℕ) → k < count_trailing_zeros d q → bit q k ≡ false
unfolding count_trailing_zeros
trailing_below zero q k l = absurd (omega arith)
trailing_below (suc d) q k l = go (q % 2) refl (trailing_below d (q / 2)) k l
  where
    go : (r : ℕ) → q % 2 ≡ r → ((k : ℕ) → k < count_trailing_zeros d (q / 2) → bit (q / 2) k ≡ false) → (k : ℕ) → k < under r (count_trailing_zeros d (q / 2)) → bit q k ≡ false
    go zero e rest zero m = bit_first q ∙ ne_eqb (q % 2) 1 (omega arith)
    go zero e rest (suc k) m = bit_next q k ∙ rest k (omega arith)
    go (suc r) e rest k m = absurd (omega arith)

-- a number of sixteen bits has no bit from 16 on
pub high_none : (m k : ℕ) → m < 65536 → 16 ≤ k → bit m k ≡ false
high_none m k small far = below_bit m k (omega (arith, pow_le 16 k far))

-- one port alone
pub one_bit : (j k : ℕ) → j < 16 → bit (2 ^ j) k ≡ (eqb k j && ltb k 16)
one_bit j k small =
    elim (cases_eq k j) [
      | inl e ↦ ap (bit (2 ^ j)) e ∙ same_bit j ∙ sym (and_from (eqb k j) (ltb k 16) (eq-eqb k j e) (lt-ltb k 16 (omega arith)))
      | inr ne ↦ other_bit j k ne ∙ sym (and_left (eqb k j) (ltb k 16) (ne_eqb k j ne))
    ]

pub no_bit : (j k : ℕ) → 16 ≤ j → bit 0 k ≡ (eqb k j && ltb k 16)
no_bit j k far =
    elim (cases_eq k j) [
      | inl e ↦ zero_bit k ∙ sym (and_right (eqb k j) (ltb k 16) (le-ltb k 16 (omega arith)))
      | inr ne ↦ zero_bit k ∙ sym (and_left (eqb k j) (ltb k 16) (ne_eqb k j ne))
    ]

-- what is left of a set of ports below 16 without one port
pub left_bit : (m kept j k : ℕ) → m < 65536 → bit kept k ≡ (bit m k && (eqb k j && ltb k 16)) → bit (bit_xor m kept) k ≡ (bit m k && not (eqb k j))
left_bit m kept j k small e = xor_bit m kept k ∙ ap (unlike (bit m k)) e ∙ taken (bit m k) (eqb k j) (ltb k 16) inside
  where
    inside : bit m k ≡ true → ltb k 16 ≡ true
    inside h = elim (cases_lt k 16) [ inl l ↦ lt-ltb k 16 l | inr g ↦ absurd (both_ways (bit m k) (high_none m k small g) h) ]

    taken : (a b l : Bool) → (a ≡ true → l ≡ true) → unlike a (a && (b && l)) ≡ (a && not b)
    taken false b l h = refl
    taken true b true h = ap not (and_true b)
      where
        and_true : (b : Bool) → (b && true) ≡ b
        and_true true = refl
        and_true false = refl
    taken true b false h = absurd (false≢true (h refl))

pub taken_out : (m j k : ℕ) → m < 65536 → (bit m k && not (eqb k j)) ≡ cond (eqb k j && ltb k 16) false (bit m k)
taken_out m j k small = go (bit m k) (eqb k j) (ltb k 16) inside
  where
    inside : bit m k ≡ true → ltb k 16 ≡ true
    inside h = elim (cases_lt k 16) [ inl l ↦ lt-ltb k 16 l | inr g ↦ absurd (both_ways (bit m k) (high_none m k small g) h) ]

    go : (a e l : Bool) → (a ≡ true → l ≡ true) → (a && not e) ≡ cond (e && l) false a
    go false true true h = refl
    go false true false h = refl
    go false false l h = refl
    go true true true h = refl
    go true true false h = absurd (false≢true (h refl))
    go true false l h = refl
