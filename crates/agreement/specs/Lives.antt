-- Whole lives of a flight over one type of carrier, for code that is written once over any. Its values c have a meaning, and `sound c`
-- is what opening a carrier gives and every call keeps. Assumes nothing.
--   state           the state of a meaning and a ledger
--   Called          a call that leads from a flight over c with the ledger b to one over c' with b'
--   Opened          a flight over c with the ledger b was opened just now
--   Life            all calls since an opening, the newest first
--   AgreementOver   the agreement theorem for one type of carrier
--   Continues       a call goes on with every life that led to it, and the craft agree then
use Rattle.std.specs.Prelude.{ℕ, List, [], ◌∷◌}
use Rattle.matter.specs.Layouts.{Kind}
use Rattle.agreement.specs.Meanings.{Meaning}
use Rattle.agreement.specs.Flights.{State, Ledger, Event, Answered}
use Rattle.agreement.specs.Runs.{Opening}
use Rattle.agreement.specs.Agreement.{Agrees}

abbrev pub state : Meaning → Ledger → State
state m b = record { carrier = m; ledger = b }

pub record Called {C : Type 0} (meaning : C → Meaning) (sound : C → Type 0) (g : ℕ) (ks : List Kind) (c : C) (b : Ledger) (e : Event) (c' : C) (b' : Ledger) : Type 0 where
  pub step : sound c → Answered g ks (state (meaning c) b) e (state (meaning c') b')
  pub kept : sound c → sound c'

pub record Opened {C : Type 0} (meaning : C → Meaning) (sound : C → Type 0) (c : C) (b : Ledger) : Type 0 where
  pub start : Opening (state (meaning c) b)
  pub kept : sound c

pub data Life {C : Type 0} (meaning : C → Meaning) (sound : C → Type 0) (g : ℕ) (ks : List Kind) : List Event → C → Ledger → Type 0 where
  begun : {c : C} {b : Ledger} → Opened meaning sound c b → Life meaning sound g ks [] c b
  called : {c c' : C} {b b' : Ledger} {es : List Event} {e : Event} → Life meaning sound g ks es c b → Called meaning sound g ks c b e c' b' → Life meaning sound g ks (e ∷ es) c' b'

abbrev pub AgreementOver : {C : Type 0} → (C → Meaning) → (C → Type 0) → ℕ → List Kind → Type 0
AgreementOver {C} meaning sound g ks = (es : List Event) (c : C) (b : Ledger) → Life meaning sound g ks es c b → Agrees g ks es (state (meaning c) b)

abbrev pub Continues : {C : Type 0} → (C → Meaning) → (C → Type 0) → ℕ → List Kind → C → Ledger → Event → C → Ledger → Type 0
Continues meaning sound g ks c b e c' b' =
    (es : List Event) → Life meaning sound g ks es c b → Life meaning sound g ks (e ∷ es) c' b' × Agrees g ks (e ∷ es) (state (meaning c') b')
