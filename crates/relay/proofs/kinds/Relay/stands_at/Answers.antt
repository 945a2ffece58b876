use Rattle.std.proofs.Common.{sym, ◌∙◌}
use Rattle.relaying.specs.Toil.{equal}
use Rattle.relay.specs.Toils.{keys_in}
use Rattle.relay.proofs.Places.{starts_at, starts_past}
use Rattle.relay.proofs.kinds.Relay.stands_at.Goals as goal

pub returns-in-Some : goal.returns-in-Some
returns-in-Some g c =
    let ks = keys_in g.L.LinkService.meaning c.args.self.now in
    c.is_same.ensures ∙ sym (starts_at equal c.args.key.now ks c.args.i c.in-Some.other (sym c.key_at.ensures ∙ c.in-Some.is))

pub returns-in-None : goal.returns-in-None
returns-in-None g c =
    let ks = keys_in g.L.LinkService.meaning c.args.self.now in
    sym (starts_past equal c.args.key.now ks c.args.i (sym c.key_at.ensures ∙ c.in-None.is))
