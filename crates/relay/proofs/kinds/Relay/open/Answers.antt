use Rattle.relay.proofs.Opening.{opened}
use Rattle.relay.proofs.kinds.Relay.open.Goals as goal

pub returns : goal.returns
returns g c = opened g.L.LinkService.meaning g.L.LinkService.laws c.args.links c.args.chart c.in_ok-base.base c.in_ok-base.ensures
