use Rattle.carriers.proofs.Opening.{opened}
use Rattle.carriers.proofs.direct.Direct.open.Goals as goal

pub returns : goal.returns
returns g c = opened g.L.LinkService.meaning g.L.LinkService.laws c.args.links c.args.chart c.in_ok-store.store c.in_ok-store.ensures
