use Rattle.service.proofs.Apart.{independent}
use Rattle.service.proofs.laws.independent.Goals as goal

pub returns : goal.returns
returns g c = independent _
