-- Whole lives of a flight. Assumes nothing.
--   Lived       these calls, the newest first, are all that was done with a flight since it was opened over a fresh carrier
--   Opens       a flight over the carrier in which nothing was voted, ordered, collected or booked; where the carrier is fresh and sound,
--               its life begins
--   Promises    whatever calls led to the flight, they and this one lead on to the flight after, and after them the craft agree
--   CallStep    one call: what it does in the flight's meaning, and in the carrier's own relations
--   CallSteps   calls one after the other, the newest first
use Rattle.std.specs.Prelude.{◌≡◌, ℕ, List, [], ◌∷◌, Option, Result}
use Rattle.matter.specs.Layouts.{Kind}
use Rattle.refusals.specs.declared.Fault.{Fault}
use Rattle.frames.specs.declared.notes.Note.{Note}
use Rattle.frames.specs.declared.notes.Frame.{Frame}
use Rattle.agreement.specs.Meanings.{Meaning, Fresh}
use Rattle.agreement.specs.Flights.{Event}
use Rattle.agreement.specs.Runs.{Empty}
use Rattle.agreement.specs.Lives.{Life, Continues}
use Rattle.carriers.specs.declared.heard.Heard.{Heard}
use Rattle.flight.specs.declared.flight.Flight.{Flight}
use Rattle.flight.specs.Ledgers.{ledger_of, Calls}
use Rattle.flight.specs.Exact.{Exactly}

module _ {C M : Type 0} (meaning : C → Meaning) (sound : C → Type 0) (g : ℕ) (ks : List Kind) where
  abbrev pub Lived : List Event → Flight C M → Type 0
  Lived es x = Life meaning sound g ks es x.carrier (ledger_of x)

  pub record Opens (c : C) (x : Flight C M) : Type 0 where
    pub carrier : x.carrier ≡ c
    pub empty : Empty (ledger_of x)
    pub begins : sound c → Fresh (meaning c) → Lived [] x

  abbrev pub Promises : Flight C M → Event → Flight C M → Type 0
  Promises x e x' = Continues meaning sound g ks x.carrier (ledger_of x) e x'.carrier (ledger_of x')

  module _ (says : C → ℕ → Note → Result Unit Fault → C → Type 0) (carries : C → ℕ → Result (Option Heard) Fault → C → Type 0)
      (meddles : C → ℕ → ℕ → Frame → Result Unit Fault → C → Type 0) where
    pub record CallStep (x : Flight C M) (e : Event) (x' : Flight C M) : Type 0 where
      pub call : Calls meaning sound g ks x e x'
      pub exact : sound x.carrier → Exactly meaning says carries meddles x e x'

    pub data CallSteps (x : Flight C M) : List Event → Flight C M → Type 0 where
      none : CallSteps x [] x
      then : {y z : Flight C M} {es : List Event} {e : Event} → CallSteps x es y → CallStep y e z → CallSteps x (e ∷ es) z
