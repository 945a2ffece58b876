use Rattle.std.proofs.Common.{sym, ◌∙◌}
use Rattle.relaying.specs.Toil.{equal}
use Rattle.relay.specs.Toils.{keys_in, open_in}
use Rattle.relay.proofs.Places.{share_last, share_before, share_past}
use Rattle.relay.proofs.kinds.Relay.open_for.Goals as goal

pub returns-in-Some-clause-answer : goal.returns-in-Some-clause-answer
returns-in-Some-clause-answer g c =
    let ks = keys_in g.L.LinkService.meaning c.args.self.now in
    c.open_at_all.ensures.answer
    ∙ sym (share_last equal (open_in c.args.self.now) ks c.args.i c.in-Some.key (sym c.key_at.ensures ∙ c.in-Some.is) (sym c.stands_from.ensures ∙ c.if-not-stands_from.true))

pub returns-in_default-clause-answer : goal.returns-in_default-clause-answer
returns-in_default-clause-answer g c =
    let ks = keys_in g.L.LinkService.meaning c.args.self.now in
    sym (share_before equal (open_in c.args.self.now) ks c.args.i c.in-Some.key (sym c.key_at.ensures ∙ c.in-Some.is) (sym c.stands_from.ensures ∙ c.if-not-stands_from.false))

pub returns-in_default-2-clause-answer : goal.returns-in_default-2-clause-answer
returns-in_default-2-clause-answer g c =
    sym (share_past equal (open_in c.args.self.now) (keys_in g.L.LinkService.meaning c.args.self.now) c.args.i (sym c.key_at.ensures ∙ c.in_default.is))
