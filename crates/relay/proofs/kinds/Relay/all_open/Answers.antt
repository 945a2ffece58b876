use Rattle.std.proofs.Common.{arith}
use Rattle.relaying.specs.Toil.{equal}
use Rattle.relay.specs.Toils.{keys_in, open_in}
use Rattle.relay.proofs.Places.{sum_on}
use Rattle.relay.proofs.kinds.Relay.all_open.Goals as goal

pub loop-i-preserved : goal.loop-i-preserved
loop-i-preserved g c =
    let inv = c.loop-i.invariant in
    let one = c.open_for.ensures in
    record {
      answer = omega (arith, inv.answer, sum_on equal (open_in c.args.self.now) (keys_in g.L.LinkService.meaning c.args.self.now) c.loop-i.i, one.answer, c.from-open.ensures);
      few = omega (arith, inv.few, one.few, c.from-open.ensures);
    }
