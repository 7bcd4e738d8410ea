use Rattle.mask.proofs.Digits.{and_bit}
use Rattle.mask.proofs.Mask.meet.Goals as goal

pub returns : goal.returns
returns c k = and_bit c.args.self.bits c.args.other.bits k
