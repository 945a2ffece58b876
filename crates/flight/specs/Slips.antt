-- Calls with slips by what they answer. Assumes nothing.
--   Collected    a slip has the labels that it was collected for, and is not spent
--   GivenBack    a slip that was refused comes back
--   RefusedBook  the same of a book, which leaves the buffer as it was, too
--   collect_event, book_event, return_event
--                each call with its answer
use Rattle.std.specs.Prelude.{◌≡◌, ℕ, false, List, Ok, Err, Result}
use Rattle.refusals.specs.declared.Fault.{Fault}
use Rattle.refusals.specs.Refusals.{told}
use Rattle.agreement.specs.Flights.{Event, collected, booked, returned, refused, collect, book, put_back}
use Rattle.flight.specs.declared.slips.Slip.{Slip}

abbrev pub Collected : ℕ → ℕ → ℕ → Result Slip Fault → Type 0
Collected c o k (Ok s) = (s.craft ≡ c) × (s.origin ≡ o) × (s.number ≡ k) × (s.spent ≡ false)
Collected c o k (Err e) = Unit {0}

abbrev pub GivenBack : Slip → Result Unit (Slip × Fault) → Type 0
GivenBack s (Ok _) = Unit {0}
GivenBack s (Err e) = e.0 ≡ s

-- what an accepted one leaves in the buffer is said by its event
abbrev pub RefusedBook : Slip → List ℕ → Result Unit (Slip × Fault) → List ℕ → Type 0
RefusedBook s buffer (Ok _) after = Unit {0}
RefusedBook s buffer (Err e) after = (e.0 ≡ s) × (after ≡ buffer)

abbrev pub collect_event : ℕ → ℕ → ℕ → Result Slip Fault → Event
collect_event c o k (Ok _) = collected c o k
collect_event c o k (Err e) = refused (collect c o k) (told e)

abbrev pub book_event : Slip → ℕ → List ℕ → Result Unit (Slip × Fault) → List ℕ → Event
book_event s at buffer (Ok _) after = booked s.craft s.origin s.number at buffer after
book_event s at buffer (Err e) after = refused (book s.craft s.origin s.number at buffer) (told e.1)

abbrev pub return_event : Slip → Result Unit (Slip × Fault) → Event
return_event s (Ok _) = returned s.craft s.origin s.number
return_event s (Err e) = refused (put_back s.craft s.origin s.number) (told e.1)
