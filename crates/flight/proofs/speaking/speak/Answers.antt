use Rattle.flight.proofs.Spoken.{spoken, first_said, said_both}
use Rattle.flight.proofs.speaking.speak.Goals as goal

pub returns-in_err-say_if-clause-step : goal.returns-in_err-say_if-clause-step
returns-in_err-say_if-clause-step g c sound =
    let e = c.say_if.ensures.step sound in
    (λ may. first_said g.C.Carrier.G _ _ c.args.turn c.args.listener c.args.note.now _ _ _ may c.echo-echo.ensures e.0 c.in_err-say_if.was, e.1)

pub returns-clause-step : goal.returns-clause-step
returns-clause-step g c sound =
    let e = c.say_if.ensures.step sound in
    let r = c.say_if-2.ensures.step e.1 in
    (λ may. let h = spoken g.C.Carrier.G _ _ _ c.args.turn c.args.listener c.args.note.now _ _ _ _ may c.echo-echo.ensures c.ready-ready.ensures e.0 r.0 in (h.1, h.2), r.1)

pub returns-clause-exact : goal.returns-clause-exact
returns-clause-exact g c =
    said_both g.C.Carrier.says _ _ _ c.args.turn c.args.listener c.args.note.now _ _ _ c.echo-echo.ensures c.ready-ready.ensures c.in_ok-say_if.ensures.exact c.say_if-2.ensures.exact
