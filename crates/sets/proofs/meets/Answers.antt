use Rattle.sets.proofs.Members.{meeting_decides}
use Rattle.sets.proofs.meets.Goals as goal

pub returns-clause-members : goal.returns-clause-members
returns-clause-members c = meeting_decides c.args.a c.args.b
