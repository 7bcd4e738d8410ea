use Rattle.std.proofs.Common.{ap, ◌∙◌}
use Rattle.std.proofs.lemmas.Nat.{one_shl}
use Rattle.mask.specs.Bits.{bit}
use Rattle.mask.proofs.Digits.{no_bit, one_bit}
use Rattle.mask.proofs.Mask.only.Goals as goal

pub returns-then-port-lt16 : goal.returns-then-port-lt16
returns-then-port-lt16 c k =
    ap (λ x. bit x k) (one_shl c.args.port 16 c.if-port-lt16.true) ∙ one_bit c.args.port k c.if-port-lt16.true

pub returns-else-port-lt16 : goal.returns-else-port-lt16
returns-else-port-lt16 c k = no_bit c.args.port k c.if-port-lt16.false
