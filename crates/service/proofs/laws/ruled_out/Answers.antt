use Rattle.service.proofs.Tried.{ruled_out}
use Rattle.service.proofs.laws.ruled_out.Goals as goal

pub returns : goal.returns
returns c = ruled_out
