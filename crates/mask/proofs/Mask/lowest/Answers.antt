use Rattle.std.proofs.Common.{◌<◌, ap, ◌∙◌, arith}
use lib.Count.{count_trailing_zeros}
use borrow.Author.Numbers.{trailing_lt}
use Rattle.mask.specs.Bits.{bit}
use Rattle.mask.proofs.Digits.{zero_bit, trailing_in, trailing_below}
use Rattle.mask.proofs.Mask.lowest.Goals as goal

pub returns-then-self-eq0 : goal.returns-then-self-eq0
returns-then-self-eq0 c k = ap (λ x. bit x k) c.if-self-eq0.true ∙ zero_bit k

pub returns : goal.returns
returns c =
    let m = c.args.self.bits in
    let l : count_trailing_zeros 16 m < 16 = trailing_lt 16 m (omega arith) (omega arith) in
    record { within = l; here = trailing_in 16 m l; first = trailing_below 16 m }
