use Rattle.std.proofs.Common.{◌||◌, ap, ◌∙◌}
use Rattle.mask.specs.Bits.{bit}
use Rattle.mask.proofs.Digits.{or_bit}
use Rattle.mask.proofs.Mask.with.Goals as goal

pub returns : goal.returns
returns c k =
    or_bit c.args.self.bits c.only.result.bits k ∙ ap (λ b. bit c.args.self.bits k || b) (c.only.ensures k)
