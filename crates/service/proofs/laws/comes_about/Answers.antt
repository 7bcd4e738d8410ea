use Rattle.service.proofs.Tried.{came_about}
use Rattle.service.proofs.laws.comes_about.Goals as goal

pub returns : goal.returns
returns c = came_about
