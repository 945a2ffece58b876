-- What a craft says on hearing a note. Assumes nothing.
--   SaysIf     it says a note if there is one
--   MaySpeak   it is a craft, the note is sound by somebody, and there is room for two notes
--   said       the notes that a turn says
--   Speaks     then both are said, the Echo first
use Rattle.std.specs.Prelude.{◌≡◌, ℕ, ◌<◌, ◌≤◌, true, cond, List, [], ◌∷◌, ◌++◌, Some, None, Ok, Option, Result}
use Rattle.refusals.specs.declared.Fault.{Fault}
use Rattle.frames.specs.declared.notes.Step.TheVariants.{Echo, Ready}
use Rattle.frames.specs.declared.notes.Note.{Note}
use Rattle.frames.specs.Notes.{sound, note}
use Rattle.agreement.specs.Meanings.{Meaning}
use Rattle.agreement.specs.Flights.{Saying}
use Rattle.carriers.specs.Calls.{Say}
use Rattle.votes.specs.declared.stages.Move.{Move}

abbrev pub SaysIf : ℕ → Meaning → ℕ → Option Note → Result Unit Fault → Meaning → Type 0
SaysIf g m a None r m' = (r ≡ Ok tt) × (m' ≡ m)
SaysIf g m a (Some t) r m' = Say g m a t r m'

pub record MaySpeak (m : Meaning) (l : ℕ) (t : Note) : Type 0 where
  pub listener : l < m.n
  pub author : ℕ
  pub sound : sound m.n author t ≡ true
  pub room : 2 ≤ m.spare

abbrev pub said : Move → Note → List Note
said u t = cond u.echoes (note Echo t.origin t.number t.content ∷ []) [] ++ cond u.readies (note Ready t.origin t.number t.content ∷ []) []

abbrev pub Speaks : ℕ → Meaning → Move → ℕ → Note → Result Unit Fault → Meaning → Type 0
Speaks g m u l t r m' = MaySpeak m l t → (r ≡ Ok tt) × Saying g m l (said u t) m'
