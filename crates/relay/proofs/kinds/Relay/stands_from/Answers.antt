use Rattle.std.proofs.Common.{drop, sym, ◌∙◌}
use Rattle.relaying.specs.Distinct.{among}
use Rattle.relaying.specs.Toil.{equal}
use Rattle.relay.specs.Toils.{keys_in}
use Rattle.relay.proofs.Places.{among_here, among_on}
use Rattle.relay.proofs.kinds.Relay.stands_from.Goals as goal

pub loop-i-preserved : goal.loop-i-preserved
loop-i-preserved g c =
    let k = c.args.key.now in
    let ks = keys_in g.L.LinkService.meaning c.args.self.now in
    among_on equal k ks c.loop-i.i (among equal k (drop c.args.start ks)) c.loop-i.invariant (sym c.stands_at.ensures ∙ c.if-stands_at.false)

pub returns-then-stands_at : goal.returns-then-stands_at
returns-then-stands_at g c =
    let k = c.args.key.now in
    let ks = keys_in g.L.LinkService.meaning c.args.self.now in
    among_here equal k ks c.loop-i.i (among equal k (drop c.args.start ks)) c.loop-i.invariant (sym c.stands_at.ensures ∙ c.if-stands_at.true)
