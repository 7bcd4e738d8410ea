use Rattle.std.proofs.Common.{◌≡◌, ℕ, ◌-◌, ◌<◌, ◌≤◌, ◌&&◌, ltb, ap, ◌∙◌, arith}
use Rattle.std.proofs.lemmas.Nat.{one_shl}
use Rattle.std.proofs.lemmas.Bool.Decides.{nat_tests}
use Rattle.mask.specs.Bits.{bit}
use Rattle.mask.proofs.Digits.{ones_bit}
use Rattle.mask.proofs.Mask.below.Goals as goal

many : (n k : ℕ) → 16 ≤ n → ltb k 16 ≡ (ltb k n && ltb k 16)
many n k h = grind (arith, nat_tests)

few : (n k : ℕ) → n < 16 → ltb k n ≡ (ltb k n && ltb k 16)
few n k h = grind (arith, nat_tests)

pub returns-then-count-ge16 : goal.returns-then-count-ge16
returns-then-count-ge16 c k = ones_bit 16 k ∙ many c.args.count k c.if-count-ge16.true

pub returns : goal.returns
returns c k =
    ap (λ x. bit (x - 1) k) (one_shl c.args.count 16 c.if-count-ge16.false)
    ∙ ones_bit c.args.count k
    ∙ few c.args.count k c.if-count-ge16.false
