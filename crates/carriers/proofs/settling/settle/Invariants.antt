use Rattle.carriers.specs.Settling.{Onward, Carried, CarriedBy}
use Rattle.carriers.proofs.settling.settle.Given as goal

abbrev pub invariant-loop-carried : goal.invariant-loop-carried
invariant-loop-carried g l =
    CarriedBy g.C.Carrier.carries l.initial.carrier l.carried l.carrier
    × (g.C.LawfulCarrier.sound l.initial.carrier
    → Onward (g.C.LawfulCarrier.meaning l.initial.carrier) l.carried (g.C.LawfulCarrier.meaning l.carrier)
    × Carried (g.C.LawfulCarrier.meaning l.initial.carrier) l.carried (g.C.LawfulCarrier.meaning l.carrier)
    × g.C.LawfulCarrier.sound l.carrier)
