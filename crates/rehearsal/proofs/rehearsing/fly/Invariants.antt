use Rattle.std.specs.Iterator.Adapters.{enumerate_source, enumerate_count}
use Rattle.rehearsal.proofs.Flying.{Flying}
use Rattle.rehearsal.proofs.rehearsing.fly.Given as goal

abbrev pub invariant-loop-index : goal.invariant-loop-index
invariant-loop-index g l =
    Flying g.C.LawfulCarrier.meaning g.C.LawfulCarrier.sound g.C.Carrier.G g.C.Carrier.says g.C.Carrier.carries g.C.Carrier.meddles l.fn.carrier l.fn.records.rest.now
    (enumerate_source l.index-iterator).rest.now (enumerate_count l.index-iterator) l.out.items l.flight
