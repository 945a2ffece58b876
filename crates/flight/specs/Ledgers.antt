-- A flight's state, and its calls by what they answer. Assumes nothing.
--   ledger              what a flight keeps beside its carrier
--   ledger_of, state_of a flight's ledger, and its state
--   order_event, carry_event, meddle_event
--                       a call with its answer
--   Calls               a call, and what it leaves
use Rattle.std.specs.Prelude.{ℕ, List, slice_index, Some, None, Ok, Err, Option, Result}
use Rattle.sets.specs.Sets.{has}
use Rattle.matter.specs.Layouts.{Kind}
use Rattle.refusals.specs.declared.Fault.{Fault}
use Rattle.refusals.specs.Refusals.{told}
use Rattle.frames.specs.declared.notes.Frame.{Frame}
use Rattle.agreement.specs.Meanings.{Meaning}
use Rattle.agreement.specs.Flights.{State, Ledger, Event, ordered, moved, heard, meddled, refused, order, carry, meddle}
use Rattle.agreement.specs.Lives.{state, Called}
use Rattle.votes.specs.declared.table.Table.{Table}
use Rattle.votes.specs.Places.{is_out, is_booked}
use Rattle.votes.specs.Tables.{votes_at, place_at}
use Rattle.votes.specs.Deliveries.{delivery}
use Rattle.votes.specs.declared.delivery.Delivery.{Delivery}
use Rattle.flight.specs.declared.flight.Flight.{Flight}
use Rattle.flight.specs.declared.flight.Hearing.{Hearing}

abbrev pub ledger : Table → List ℕ → Ledger
ledger t os = record {
  votes = votes_at t;
  ordered = λ c k. has (slice_index os c) k;
  out = λ c o k. is_out (place_at t c o k);
  booked = λ c o k. is_booked (place_at t c o k);
}

abbrev pub ledger_of : {C M : Type 0} → Flight C M → Ledger
ledger_of x = ledger x.table x.ordered

abbrev pub state_of : {C M : Type 0} → (C → Meaning) → Flight C M → State
state_of meaning x = state (meaning x.carrier) (ledger_of x)

abbrev pub order_event : ℕ → ℕ → ℕ → Result (Option Delivery) Fault → Event
order_event c k w (Ok d) = ordered c k w (delivery d)
order_event c k w (Err e) = refused (order c k w) (told e)

abbrev pub carry_event : ℕ → Result (Option Hearing) Fault → Event
carry_event i (Ok None) = moved i
carry_event i (Ok (Some h)) = heard i h.heard.listener h.heard.author h.heard.note (delivery h.delivery)
carry_event i (Err e) = refused (carry i) (told e)

abbrev pub meddle_event : ℕ → ℕ → Frame → Result Unit Fault → Event
meddle_event c to x (Ok _) = meddled c to x
meddle_event c to x (Err e) = refused (meddle c to x) (told e)

abbrev pub Calls : {C M : Type 0} → (C → Meaning) → (C → Type 0) → ℕ → List Kind → Flight C M → Event → Flight C M → Type 0
Calls meaning sound g ks x e x' = Called meaning sound g ks x.carrier (ledger_of x) e x'.carrier (ledger_of x')
