use Rattle.flight.proofs.Executing.{flown}
use Rattle.flight.proofs.flying.fly.Goals as goal

pub returns : goal.returns
returns g c =
    let o = c.in_ok-open_from.ensures in
    let e = c.execute_all-count.ensures in
    flown _ _ _ _ _ _ _ _ g.C.LawfulCarrier.lawful c.args.from c.args.buffer.now _ c.args.commands.now c.args.answers.now _ _ _ _ _ o.exact c.open-flight.ensures o.kept o.fresh e.count e.executed e.rest
