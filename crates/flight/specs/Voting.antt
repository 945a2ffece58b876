-- A craft votes on what it hears. Assumes nothing.
--   VotedOn   nothing is refused, what the turn says was said, its votes are kept and its delivery is told
--   Votes     so where the listener may speak; else nothing is known
use Rattle.std.specs.Prelude.{◌≡◌, ℕ, Ok, Option, Result}
use Rattle.refusals.specs.declared.Fault.{Fault}
use Rattle.frames.specs.declared.notes.Note.{Note}
use Rattle.agreement.specs.Meanings.{Meaning}
use Rattle.agreement.specs.Flights.{Voted, SameSlips}
use Rattle.votes.specs.declared.delivery.Delivery.{Delivery}
use Rattle.votes.specs.Deliveries.{delivery}
use Rattle.flight.specs.declared.flight.Flight.{Flight}
use Rattle.flight.specs.Ledgers.{state_of}
use Rattle.flight.specs.Speaking.{MaySpeak}

pub record VotedOn {C M : Type 0} (g : ℕ) (meaning : C → Meaning) (x : Flight C M) (l a : ℕ) (t : Note) (r : Result (Option Delivery) Fault) (x' : Flight C M) : Type 0 where
  pub told : Option Delivery
  pub answer : r ≡ Ok told
  pub voted : Voted g (state_of meaning x) (meaning x.carrier) l a t (delivery told) (state_of meaning x')
  pub slips : SameSlips (state_of meaning x) (state_of meaning x')

abbrev pub Votes : {C M : Type 0} → ℕ → (C → Meaning) → Flight C M → ℕ → ℕ → Note → Result (Option Delivery) Fault → Flight C M → Type 0
Votes g meaning x l a t r x' = MaySpeak (meaning x.carrier) l t → VotedOn g meaning x l a t r x'
