use Rattle.service.proofs.Away.{goes_on}
use Rattle.service.proofs.laws.goes_on.Goals as goal

pub returns : goal.returns
returns g c = goes_on
