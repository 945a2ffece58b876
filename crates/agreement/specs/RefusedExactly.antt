-- A call is refused exactly where one of its causes holds, by the first of them, and changes nothing then. Assumes nothing.
--   call_of          the call that an event answers
--   told_by          what the event tells of a refusal, if it is one
--   RefusedExactly   of every step, from any state
use Rattle.std.specs.Prelude.{◌≡◌, ℕ, List, Some, None, Option}
use Rattle.refusals.specs.Refusals.{Told, refusal}
use Rattle.matter.specs.Layouts.{Kind}
use Rattle.agreement.specs.Flights.{State, Event, ordered, moved, heard, meddled, collected, booked, returned, refused, Call, order, carry, meddle, collect, book, put_back, causes, Answered}

abbrev pub call_of : Event → Call
call_of (ordered c k w d) = order c k w
call_of (moved i) = carry i
call_of (heard i l a t d) = carry i
call_of (meddled c to x) = meddle c to x
call_of (collected c o k) = collect c o k
call_of (booked c o k place buffer after) = book c o k place buffer
call_of (returned c o k) = put_back c o k
call_of (refused c v) = c

abbrev pub told_by : Event → Option Told
told_by (ordered c k w d) = None
told_by (moved i) = None
told_by (heard i l a t d) = None
told_by (meddled c to x) = None
told_by (collected c o k) = None
told_by (booked c o k place buffer after) = None
told_by (returned c o k) = None
told_by (refused c v) = Some v

pub record RefusedExactly : Type 0 where
  pub first_cause : (g : ℕ) (ks : List Kind) (s s' : State) (e : Event) → Answered g ks s e s' → refusal (causes ks s (call_of e)) ≡ told_by e
  pub unchanged : (g : ℕ) (ks : List Kind) (s s' : State) (e : Event) (v : Told) → Answered g ks s e s' → told_by e ≡ Some v → s' ≡ s
