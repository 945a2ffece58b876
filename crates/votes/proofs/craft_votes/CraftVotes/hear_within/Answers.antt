use Rattle.std.proofs.Common.{◌<◌, length, get_or, set, sym, subst, rules}
use Rattle.votes.specs.declared.craft_votes.OriginVotes.{OriginVotes}
use Rattle.votes.specs.Crafts.{no_orders, CraftVotesSet}
use Rattle.votes.proofs.PutLaws.{votes_put, out_put, booked_put}
use Rattle.votes.proofs.craft_votes.CraftVotes.hear_within.Goals as goal

pub returns : goal.returns
returns c =
    let g = c.args.self.now in
    let x = c.args.note.now in
    let h = c.hear.ensures.heard in
    let lo : x.origin < length g.at = search rules in
    let lk : x.number < length (get_or g.at x.origin no_orders).at = c.hear.ensures.within in
    subst (λ (z : OriginVotes). CraftVotesSet c.args.n c.args.f c.args.own c.args.author x g c.hear.result (record { at = set g.at x.origin z })) (sym h.put) (record {
      echoes = h.turn.echoes;
      readies = h.turn.readies;
      delivers = h.turn.delivers;
      votes = votes_put g x.origin x.number h.votes lo lk _ h.turn.after;
      out = out_put g x.origin x.number h.votes lo lk h.slip;
      booked = booked_put g x.origin x.number h.votes lo lk h.slip;
    })
