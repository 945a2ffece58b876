use Rattle.std.proofs.Common.{◌≡◌, take, drop}
use Rattle.flight.specs.Lists.{ExecutedAll}
use Rattle.flight.proofs.flying.execute_all.Given as goal

abbrev pub invariant-loop-i : goal.invariant-loop-i
invariant-loop-i g l =
    ExecutedAll g.C.LawfulCarrier.meaning g.C.LawfulCarrier.sound g.C.Carrier.G g.M.Matter.kinds g.C.Carrier.says g.C.Carrier.carries g.C.Carrier.meddles
    l.initial.flight l.initial.buffer (take l.i l.commands) (take l.i l.answers) l.flight l.buffer
    × (drop l.count l.answers ≡ drop l.count l.initial.answers)
