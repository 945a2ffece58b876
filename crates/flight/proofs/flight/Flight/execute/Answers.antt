use Rattle.std.proofs.Common.{refl}
use Rattle.flight.specs.declared.lists.Command.TheVariants.{Order, Carry, Meddle}
use Rattle.flight.proofs.Executing.{executed_once}
use Rattle.flight.proofs.flight.Flight.execute.Goals as goal

pub returns-in-Order : goal.returns-in-Order
returns-in-Order g c =
    let a = c.in-Order in
    let e = c.order_word.ensures in
    executed_once _ _ _ _ _ _ _ g.C.LawfulCarrier.lawful (Order a.craft a.number a.word) _ _ _ _ _ _ a.is (refl, refl) (record { call = e.call; exact = e.exact })

pub returns-in-Carry : goal.returns-in-Carry
returns-in-Carry g c =
    let e = c.carry.ensures in
    executed_once _ _ _ _ _ _ _ g.C.LawfulCarrier.lawful (Carry c.in-Carry.index) _ _ _ _ _ _ c.in-Carry.is (refl, refl) (record { call = e.call; exact = e.exact })

pub returns-in-Meddle : goal.returns-in-Meddle
returns-in-Meddle g c =
    let a = c.in-Meddle in
    let e = c.meddle.ensures in
    executed_once _ _ _ _ _ _ _ g.C.LawfulCarrier.lawful (Meddle a.craft a.to a.frame) _ _ _ _ _ _ a.is (refl, refl) (record { call = e.call; exact = e.exact })
