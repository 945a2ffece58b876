use Rattle.flight.proofs.FirstOrder.{toil_of_two}
use Rattle.flight.proofs.worked.worked_toil.Goals as goal

pub returns-clause-toil : goal.returns-clause-toil
returns-clause-toil g c = toil_of_two g.L.LinkService.meaning g.M.Matter.kinds
