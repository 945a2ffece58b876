use Rattle.std.proofs.Common.{arith}
use Rattle.bases.specs.Parts.{parts}
use Rattle.relay.proofs.Places.{keys_few}
use Rattle.relay.proofs.kinds.Relay.places.Goals as goal

pub returns-clause-all : goal.returns-clause-all
returns-clause-all g c = let d = c.args.self.now in omega (arith, keys_few d.passed (parts g.L.LinkService.meaning d.base), c.waiting.ensures)
