-- Lists of commands. Assumes nothing.
--   BookingCalls       the calls of a booking, the newest first, and what they leave in the buffer: the collect is refused; or the line is written;
--               or the line finds no room, and the slip is put back
--   Does        the calls that a command made, with what came of it, and what they leave in the buffer
--   Did         all calls that commands made, the newest first, with what came of each, and what they leave in the buffer
--   GoesOn      calls that lead from a flight to another go on with every life of the first, and then the craft agree; and if the calls are carries
--               alone, no more are accepted than the first flight's toil
--   Executed    a command, what came of it, and what it leaves in the flight and the buffer
--   ExecutedAll the same of a list of commands
--   Flown       a carrier was opened, a flight over it, and that executed as many commands as there is room for answers; these calls are all its life,
--               and the craft agree: nothing is assumed of the carrier, since opening it says what it is
--   Flies       so; or the opening is refused, and nothing is done
use Rattle.std.specs.Prelude.{◌≡◌, ℕ, ◌≤◌, List, [], ◌∷◌, ◌++◌, length, min, take, drop, Ok, Err, Option, Result}
use Rattle.refusals.specs.declared.Fault.{Fault}
use Rattle.refusals.specs.Refusals.{told}
use Rattle.matter.specs.Layouts.{Kind}
use Rattle.frames.specs.declared.notes.Note.{Note}
use Rattle.frames.specs.declared.notes.Frame.{Frame}
use Rattle.agreement.specs.Meanings.{Meaning, Fresh}
use Rattle.agreement.specs.Flights.{Event, collected, booked, returned, refused, collect, book, flight_toil}
use Rattle.agreement.specs.Runs.{Carries, accepted_in}
use Rattle.agreement.specs.Agreement.{Agrees}
use Rattle.carriers.specs.declared.heard.Heard.{Heard}
use Rattle.flight.specs.declared.flight.Flight.{Flight}
use Rattle.flight.specs.declared.lists.Command.{Command}
use Rattle.flight.specs.declared.lists.Command.TheVariants.{Order, Carry, Meddle, Book}
use Rattle.flight.specs.declared.lists.Answer.{Answer}
use Rattle.flight.specs.declared.lists.Answer.TheVariants.{Ordered, Carried, Meddled, Booked}
use Rattle.flight.specs.Ledgers.{state_of, order_event, carry_event, meddle_event}
use Rattle.flight.specs.Lives.{Lived, Opens, CallSteps}

pub data BookingCalls (c o k at : ℕ) (buffer : List ℕ) : Result Unit Fault → List Event → List ℕ → Type 0 where
  nothing : {e : Fault} → BookingCalls c o k at buffer (Err e) (refused (collect c o k) (told e) ∷ []) buffer
  written : {after : List ℕ} → BookingCalls c o k at buffer (Ok tt) (booked c o k at buffer after ∷ collected c o k ∷ []) after
  no_room : {e : Fault} → BookingCalls c o k at buffer (Err e) (returned c o k ∷ refused (book c o k at buffer) (told e) ∷ collected c o k ∷ []) buffer

abbrev pub Does : Command → List ℕ → Answer → List Event → List ℕ → Type 0
Does (Order c k w) buffer (Ordered r) es after = (es ≡ order_event c k w r ∷ []) × (after ≡ buffer)
Does (Order c k w) buffer (Carried r) es after = ⊥
Does (Order c k w) buffer (Meddled r) es after = ⊥
Does (Order c k w) buffer (Booked r) es after = ⊥
Does (Carry i) buffer (Ordered r) es after = ⊥
Does (Carry i) buffer (Carried r) es after = (es ≡ carry_event i r ∷ []) × (after ≡ buffer)
Does (Carry i) buffer (Meddled r) es after = ⊥
Does (Carry i) buffer (Booked r) es after = ⊥
Does (Meddle c to x) buffer (Ordered r) es after = ⊥
Does (Meddle c to x) buffer (Carried r) es after = ⊥
Does (Meddle c to x) buffer (Meddled r) es after = (es ≡ meddle_event c to x r ∷ []) × (after ≡ buffer)
Does (Meddle c to x) buffer (Booked r) es after = ⊥
Does (Book c o k at) buffer (Ordered r) es after = ⊥
Does (Book c o k at) buffer (Carried r) es after = ⊥
Does (Book c o k at) buffer (Meddled r) es after = ⊥
Does (Book c o k at) buffer (Booked r) es after = BookingCalls c o k at buffer r es after

pub data Did (buffer : List ℕ) : List Command → List Answer → List Event → List ℕ → Type 0 where
  none : Did buffer [] [] [] buffer
  then : (ds : List Command) (d : Command) (answers : List Answer) (a : Answer) (es calls : List Event) (between after : List ℕ)
      → Did buffer ds answers es between → Does d between a calls after → Did buffer (ds ++ d ∷ []) (answers ++ a ∷ []) (calls ++ es) after

module _ {C M : Type 0} (meaning : C → Meaning) (sound : C → Type 0) (g : ℕ) (ks : List Kind) where
  abbrev pub GoesOn : Flight C M → List Event → Flight C M → Type 0
  GoesOn x calls x' = (es : List Event) → Lived meaning sound g ks es x
      → Lived meaning sound g ks (calls ++ es) x' × Agrees g ks (calls ++ es) (state_of meaning x')
      × (Carries calls → accepted_in calls ≤ flight_toil g (state_of meaning x))

  module _ (says : C → ℕ → Note → Result Unit Fault → C → Type 0) (carries : C → ℕ → Result (Option Heard) Fault → C → Type 0)
      (meddles : C → ℕ → ℕ → Frame → Result Unit Fault → C → Type 0) where
    pub record Executed (x : Flight C M) (buffer : List ℕ) (d : Command) (a : Answer) (x' : Flight C M) (after : List ℕ) : Type 0 where
      pub calls : List Event
      pub does : Does d buffer a calls after
      pub steps : CallSteps meaning sound g ks says carries meddles x calls x'
      pub promise : GoesOn x calls x'

    pub record ExecutedAll (x : Flight C M) (buffer : List ℕ) (ds : List Command) (answers : List Answer) (x' : Flight C M) (after : List ℕ) : Type 0 where
      pub calls : List Event
      pub did : Did buffer ds answers calls after
      pub steps : CallSteps meaning sound g ks says carries meddles x calls x'
      pub promise : GoesOn x calls x'

    pub record Flown {F : Type 0} (opens : F → Result C Fault → Type 0) (from : F) (buffer : List ℕ) (ds : List Command) (before answers : List Answer)
        (x : Flight C M) (after : List ℕ) : Type 0 where
      pub carrier : C
      pub opened : opens from (Ok carrier)
      pub is_sound : sound carrier
      pub is_fresh : Fresh (meaning carrier)
      pub start : Flight C M
      pub begun : Opens meaning sound g ks carrier start
      pub executed : ExecutedAll start buffer (take (min (length ds) (length before)) ds) (take (min (length ds) (length before)) answers) x after
      pub rest : drop (min (length ds) (length before)) answers ≡ drop (min (length ds) (length before)) before
      pub kept : sound x.carrier
      pub lived : Lived meaning sound g ks executed.calls x
      pub agrees : Agrees g ks executed.calls (state_of meaning x)

    abbrev pub Flies : {F : Type 0} → (F → Result C Fault → Type 0) → F → List ℕ → List Command → List Answer → Result (Flight C M) Fault → List Answer → List ℕ → Type 0
    Flies opens from buffer ds before (Ok x) answers after = Flown opens from buffer ds before answers x after
    Flies opens from buffer ds before (Err e) answers after = opens from (Err e) × (answers ≡ before) × (after ≡ buffer)
