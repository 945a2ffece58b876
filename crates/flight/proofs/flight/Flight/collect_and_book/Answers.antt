use Rattle.std.proofs.Common.{ap, ◌∙◌, ◌≡◌}
use Rattle.flight.specs.Lives.{none, then}
use Rattle.flight.specs.Lists.{nothing}
use Rattle.flight.specs.declared.slips.Slip.{Slip}
use Rattle.flight.proofs.Executing.{apart, executed, taken, books_written, books_no_room}
use Rattle.flight.proofs.flight.Flight.collect_and_book.Goals as goal

pub returns-in-Err : goal.returns-in-Err
returns-in-Err g c =
    let e = c.in-Err.ensures in
    executed _ _ _ _ _ _ _ g.C.LawfulCarrier.lawful _ _ _ _ _ _ _ nothing (then none (apart _ _ _ _ _ _ _ _ _ _ e.call e.exact e.exact))

pub returns-in_default : goal.returns-in_default
returns-in_default g c =
    let a = c.in-Ok.ensures in
    let b = c.in_default.ensures in
    executed _ _ _ _ _ _ _ g.C.LawfulCarrier.lawful _ _ _ _ _ _ _
    (books_written c.args.craft c.args.origin c.args.number c.args.at _ _ _ _ _ a.slip.0 a.slip.1 a.slip.2)
    (then (then none (apart _ _ _ _ _ _ _ _ _ _ a.call a.exact a.exact)) (apart _ _ _ _ _ _ _ _ _ _ b.call b.exact b.exact))

pub returns : goal.returns
returns g c =
    let a = c.in-Ok.ensures in
    let b = c.in-Err-book.ensures in
    let p = c.in-Ok-put_back.ensures in
    let same : c.in-Err-book.slip ≡ c.in-Ok.slip = b.refused.0 in
    executed _ _ _ _ _ _ _ g.C.LawfulCarrier.lawful _ _ _ _ _ _ _
    (books_no_room c.args.craft c.args.origin c.args.number c.args.at _ _ _ _ _ _ _ _ _ a.slip.0 a.slip.1 a.slip.2
    (ap (λ (z : Slip). z.craft) same ∙ a.slip.0) (ap (λ (z : Slip). z.origin) same ∙ a.slip.1) (ap (λ (z : Slip). z.number) same ∙ a.slip.2) b.refused.1)
    (then (then (then none (apart _ _ _ _ _ _ _ _ _ _ a.call a.exact a.exact)) (apart _ _ _ _ _ _ _ _ _ _ b.call b.exact b.exact)) (apart _ _ _ _ _ _ _ _ _ _ p.call p.exact p.exact))

pub drop-requires : goal.drop-requires
drop-requires g c =
    let s = c.in-Ok.ensures.slip in
    let same : c.in-Err-book.slip ≡ c.in-Ok.slip = c.in-Err-book.ensures.refused.0 in
    absurd (taken g.C.Carrier.G g.M.Matter.kinds _ _ _ _ c.args.craft c.args.origin c.args.number _ _ _ _
    (ap (λ (z : Slip). z.craft) same ∙ s.0) (ap (λ (z : Slip). z.origin) same ∙ s.1) (ap (λ (z : Slip). z.number) same ∙ s.2)
    c.in-Ok.ensures.call c.in-Err-book.ensures.call.1 c.in_default-put_back.ensures.call)

pub unreachable-requires : goal.unreachable-requires
unreachable-requires g c =
    let s = c.in-Ok.ensures.slip in
    let same : c.in-Err-book.slip ≡ c.in-Ok.slip = c.in-Err-book.ensures.refused.0 in
    taken g.C.Carrier.G g.M.Matter.kinds _ _ _ _ c.args.craft c.args.origin c.args.number _ _ _ _
    (ap (λ (z : Slip). z.craft) same ∙ s.0) (ap (λ (z : Slip). z.origin) same ∙ s.1) (ap (λ (z : Slip). z.number) same ∙ s.2)
    c.in-Ok.ensures.call c.in-Err-book.ensures.call.1 c.in_default-put_back.ensures.call
