use Rattle.std.proofs.Common.{eqb, sym, ap, ◌∙◌, arith}
use Rattle.std.proofs.lemmas.Nat.{and_mask}
use Rattle.std.proofs.lemmas.Bool.{le-ltb}
use Rattle.mask.specs.Bits.{bit}
use Rattle.mask.proofs.Digits.{high_none}
use Rattle.mask.proofs.Mask.has.Goals as goal

pub returns-then-port-lt16 : goal.returns-then-port-lt16
unfolding bit
returns-then-port-lt16 c = ap (λ x. eqb x 1) (and_mask _ 1)

pub returns-else-port-lt16 : goal.returns-else-port-lt16
returns-else-port-lt16 c = le-ltb c.args.port 16 c.if-port-lt16.false ∙ sym (high_none c.args.self.bits c.args.port (omega arith) c.if-port-lt16.false)
