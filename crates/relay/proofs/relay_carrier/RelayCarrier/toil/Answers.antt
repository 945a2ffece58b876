use Rattle.std.proofs.Common.{◌≡◌, ℕ, ◌*◌, ap, arith}
use Rattle.sets.specs.Sets.{labels}
use Rattle.shelves.specs.Shelves.{rows_at}
use Rattle.relaying.specs.Toil.{equal}
use Rattle.relay.specs.Toils.{keys_in, open_at}
use Rattle.relay.proofs.Places.{sums_exchanged}
use Rattle.relay.proofs.relay_carrier.RelayCarrier.toil.Goals as goal

pub returns-clause-answer : goal.returns-clause-answer
returns-clause-answer g c =
    let r = c.args.self.now in
    let times : c.from.result * c.all_open.result ≡ labels * c.all_open.result = ap (λ (k : ℕ). k * c.all_open.result) c.from.ensures in
    omega (
      arith,
      times,
      c.waiting.ensures,
      c.all_open.ensures.answer,
      sums_exchanged equal (λ p. open_at (rows_at r.base.store.table.at p)) (keys_in g.L.LinkService.meaning r) r.passed.chart.n,
    )
