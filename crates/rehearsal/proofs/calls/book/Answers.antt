use Rattle.std.proofs.Common.{ℕ, List, [], ◌∷◌, refl}
use Rattle.rehearsal.specs.Runs.{given}
use Rattle.rehearsal.proofs.Stepping.{booked_so}
use Rattle.rehearsal.proofs.calls.book.Goals as goal

pub returns-in_default-book : goal.returns-in_default-book
returns-in_default-book g c =
    let got = c.in-Ok.ensures in
    let put = c.in_default-book.ensures in
    let zeros : List ℕ = 0 ∷ 0 ∷ 0 ∷ 0 ∷ 0 ∷ 0 ∷ 0 ∷ 0 ∷ 0 ∷ 0 ∷ 0 ∷ 0 ∷ 0 ∷ 0 ∷ 0 ∷ 0 ∷ 0 ∷ 0 ∷ 0 ∷ 0 ∷ 0 ∷ 0 ∷ 0 ∷ 0 ∷ 0 ∷ 0 ∷ 0 ∷ 0 ∷ [] in
    booked_so _ _ _ _ _ _ _ c.args.flight.now c.collect.new.self c.book.new.self (given c.args.delivery.now) _ _ _ zeros _ c.requires
    got.call got.slip.0 got.slip.1 got.slip.2 put.call got.exact put.exact refl
