use Rattle.std.proofs.Common.{ap}
use Rattle.votes.specs.Deliveries.{delivery}
use Rattle.rehearsal.proofs.Stepping.{due_called, stepped_alone, stepped_with}
use Rattle.rehearsal.proofs.calls.step.Goals as goal

pub book-booking-requires : goal.book-booking-requires
book-booking-requires g c = due_called _ _ _ _ _ _ _ _ _ _ _ _ _ c.requires.sound c.requires.settled c.make_call-answer.ensures (ap delivery c.in-Some.is)

pub returns-in_ok-extend_from_slice : goal.returns-in_ok-extend_from_slice
returns-in_ok-extend_from_slice g c =
    stepped_with _ _ _ _ _ _ _ _ _ _ _ _ c.requires.sound c.requires.settled _ _ _ _ _ _ _ (ap delivery c.in-Some.is)
    c.make_call-answer.ensures c.book-booking.ensures c.in_ok-add_line.ensures c.in_ok-extend_from_slice.ensures.items

pub returns-in_default : goal.returns-in_default
returns-in_default g c =
    stepped_alone _ _ _ _ _ _ _ _ _ _ _ _ c.requires.sound c.requires.settled _ _ _ (ap delivery c.in_default.is) c.make_call-answer.ensures c.in_ok-add_line.ensures
