-- Rest is reached: what part (c) of the agreement theorem comes to where the oldest frame is carried again and again. Assumes nothing.
--   OldestCarried   this event is a carry of index 0, accepted or refused
--   OldestCarries   a list of such carries alone
--   Halted          nothing waits, or less is spare than a call needs
--   RestReached     after more such carries than the flight's toil says when they begin, the flight has halted; so rest is not put off by carries that are
--                   refused without a cause
use Rattle.std.specs.Prelude.{◌≡◌, ℕ, ◌<◌, ◌⊎◌, List, [], ◌∷◌, length}
use Rattle.matter.specs.Layouts.{Kind}
use Rattle.agreement.specs.Meanings.{Meaning}
use Rattle.agreement.specs.Flights.{State, Event, ordered, moved, heard, meddled, collected, booked, returned, refused, order, carry, meddle, collect, book, put_back, least_spare, flight_toil}
use Rattle.agreement.specs.Runs.{Run}

abbrev pub OldestCarried : Event → Type 0
OldestCarried (ordered c j v d) = ⊥
OldestCarried (moved i) = i ≡ 0
OldestCarried (heard i l a t d) = i ≡ 0
OldestCarried (meddled c to x) = ⊥
OldestCarried (collected c b j) = ⊥
OldestCarried (booked c b j place buffer after) = ⊥
OldestCarried (returned c b j) = ⊥
OldestCarried (refused (order c j v) x) = ⊥
OldestCarried (refused (carry i) x) = i ≡ 0
OldestCarried (refused (meddle c to y) x) = ⊥
OldestCarried (refused (collect c b j) x) = ⊥
OldestCarried (refused (book c b j place buffer) x) = ⊥
OldestCarried (refused (put_back c b j) x) = ⊥

abbrev pub OldestCarries : List Event → Type 0
OldestCarries [] = Unit {0}
OldestCarries (e ∷ es) = OldestCarried e × OldestCarries es

abbrev pub Halted : Meaning → Type 0
Halted m = (m.waiting ≡ 0) ⊎ (m.spare < least_spare)

abbrev pub RestReached : Type 0
RestReached = (g : ℕ) (ks : List Kind) (s s' : State) (cs : List Event) → Run g ks s cs s' → OldestCarries cs → flight_toil g s < length cs → Halted s'.carrier
