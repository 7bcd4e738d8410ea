use Rattle.std.proofs.Common.{cond, ◌&&◌, eqb, ltb, sym, ap, ◌∙◌, arith}
use Rattle.mask.specs.Bits.{bit}
use Rattle.mask.proofs.Digits.{taken_out}
use Rattle.mask.proofs.Mask.set.Goals as goal

pub returns-else-member : goal.returns-else-member
returns-else-member c k =
    c.without.ensures k
    ∙ taken_out c.args.self.bits c.args.port k (omega arith)
    ∙ ap (λ b. cond (eqb k c.args.port && ltb k 16) b (bit c.args.self.bits k)) (sym c.if-member.false)
