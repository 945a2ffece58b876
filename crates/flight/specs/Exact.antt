-- What a call of a flight does to the carrier itself, in the carrier's own relations; so what is put, to whom and in which order is pinned.
-- Assumes nothing.
--   SaidIf     the author says the note, if there is one
--   SaidAll    the author says the notes, one after the other
--   Spoke      the listener says the notes of its turn on what it heard, the Echo before the Ready
--   Exactly    a call with its answer: an accepted order is the say of the Send, and what its author then says; an accepted carry moves the frame
--              at its index, and whoever hears by it says what it is to say; an accepted meddle is the carrier's; any other call leaves the carrier as it was
use Rattle.std.specs.Prelude.{◌≡◌, ℕ, List, [], ◌∷◌, Ok, Some, None, Option, Result}
use Rattle.refusals.specs.declared.Fault.{Fault}
use Rattle.frames.specs.declared.notes.Step.TheVariants.{Send}
use Rattle.frames.specs.declared.notes.Note.{Note}
use Rattle.frames.specs.declared.notes.Frame.{Frame}
use Rattle.frames.specs.Notes.{note}
use Rattle.agreement.specs.Meanings.{Meaning}
use Rattle.agreement.specs.Votes.{notes_said}
use Rattle.agreement.specs.Flights.{State, Event, ordered, moved, heard, meddled, collected, booked, returned, refused, turn}
use Rattle.carriers.specs.declared.heard.Heard.{Heard}
use Rattle.flight.specs.declared.flight.Flight.{Flight}
use Rattle.flight.specs.Ledgers.{state_of}

module _ {C : Type 0} (says : C → ℕ → Note → Result Unit Fault → C → Type 0) where
  abbrev pub SaidIf : C → ℕ → Option Note → Result Unit Fault → C → Type 0
  SaidIf c p None r c' = (r ≡ Ok tt) × (c' ≡ c)
  SaidIf c p (Some t) r c' = says c p t r c'

  abbrev pub SaidAll : C → ℕ → List Note → C → Type 0
  SaidAll c p [] c' = c' ≡ c
  SaidAll c p (t ∷ ts) c' = (between : C) × says c p t (Ok tt) between × SaidAll between p ts c'

  abbrev pub Spoke : State → C → ℕ → ℕ → Note → C → Type 0
  Spoke s c l a t c' = SaidAll c l (notes_said (turn s l a t) t.origin t.number t.content) c'

module _ {C M : Type 0} (meaning : C → Meaning) (says : C → ℕ → Note → Result Unit Fault → C → Type 0)
    (carries : C → ℕ → Result (Option Heard) Fault → C → Type 0) (meddles : C → ℕ → ℕ → Frame → Result Unit Fault → C → Type 0) where
  abbrev pub Exactly : Flight C M → Event → Flight C M → Type 0
  Exactly x (ordered c k w d) x' =
      (between : C) × says x.carrier c (note Send c k w) (Ok tt) between × Spoke says (state_of meaning x) between c c (note Send c k w) x'.carrier
  Exactly x (moved i) x' = carries x.carrier i (Ok None) x'.carrier
  Exactly x (heard i l a t d) x' =
      (between : C) × carries x.carrier i (Ok (Some (record { note = t; listener = l; author = a }))) between
      × Spoke says (state_of meaning x) between l a t x'.carrier
  Exactly x (meddled c to f) x' = meddles x.carrier c to f (Ok tt) x'.carrier
  Exactly x (collected c o k) x' = x'.carrier ≡ x.carrier
  Exactly x (booked c o k place buffer after) x' = x'.carrier ≡ x.carrier
  Exactly x (returned c o k) x' = x'.carrier ≡ x.carrier
  Exactly x (refused c v) x' = x'.carrier ≡ x.carrier
