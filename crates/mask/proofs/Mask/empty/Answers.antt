use Rattle.mask.proofs.Digits.{zero_bit}
use Rattle.mask.proofs.Mask.empty.Goals as goal

pub returns : goal.returns
returns c k = zero_bit k
