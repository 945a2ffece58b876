use Rattle.flight.proofs.flight.Flight.order.Goals as goal

pub returns-clause-in_range : goal.returns-clause-in_range
returns-clause-in_range g c = (g.met.M.Matter.reads c.args.matter.now).accepted
