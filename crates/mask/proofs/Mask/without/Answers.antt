use Rattle.std.proofs.Common.{◌&&◌, ap, ◌∙◌, arith}
use Rattle.mask.specs.Bits.{bit}
use Rattle.mask.proofs.Digits.{left_bit}
use Rattle.mask.proofs.Mask.without.Goals as goal

pub returns : goal.returns
returns c k =
    left_bit c.args.self.bits c.meet-kept.result.bits c.args.port k (omega arith)
    (c.meet-kept.ensures k ∙ ap (λ b. bit c.args.self.bits k && b) (c.only.ensures k))
