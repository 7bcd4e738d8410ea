use Rattle.service.proofs.Onward.{begins}
use Rattle.service.proofs.laws.begins.Goals as goal

pub returns : goal.returns
returns g c = begins
