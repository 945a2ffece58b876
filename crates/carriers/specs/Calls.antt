-- The calls of a carrier by what they answer. Assumes nothing.
--   Say, Carry, Meddle   each call by its answer: accepted, it leaves what its name says; refused, its first cause is told and nothing changes
--   Answers              the answer is the one that the carrier defines for the frame
--   Labels               what is told is labelled by craft, and its note is sound by its author
--   Labelled             the same of an answer: a caller may index its own tables by it
--   toil_limit           below it is every toil: a number of 128 bits holds twice as much, so a caller may add to it
use Rattle.std.specs.Prelude.{◌≡◌, ℕ, ◌^◌, ◌<◌, true, Some, None, Ok, Err, Option, Result}
use Rattle.refusals.specs.declared.Fault.{Fault}
use Rattle.refusals.specs.Refusals.{told}
use Rattle.frames.specs.declared.notes.Note.{Note}
use Rattle.frames.specs.Notes.{sound}
use Rattle.agreement.specs.Meanings.{Meaning}
use Rattle.agreement.specs.Carrying.{Says, CarriesQuiet, CarriesHeard, CarryRefused, Meddles}
use Rattle.carriers.specs.declared.heard.Heard.{Heard}

abbrev pub Say : ℕ → Meaning → ℕ → Note → Result Unit Fault → Meaning → Type 0
Say g m a t (Ok _) m' = Says g m a t None m'
Say g m a t (Err e) m' = Says g m a t (Some (told e)) m'

abbrev pub Carry : Meaning → ℕ → Result (Option Heard) Fault → Meaning → Type 0
Carry m k (Ok None) m' = CarriesQuiet m k m'
Carry m k (Ok (Some h)) m' = CarriesHeard m k h.listener h.author h.note m'
Carry m k (Err e) m' = CarryRefused m k (told e) m'

abbrev pub Meddle : Meaning → ℕ → ℕ → Result Unit Fault → Meaning → Type 0
Meddle m c to (Ok _) m' = Meddles m c to None m'
Meddle m c to (Err e) m' = Meddles m c to (Some (told e)) m'

abbrev pub Answers : Option Heard → Result (Option Heard) Fault → Type 0
Answers o (Ok t) = t ≡ o
Answers o (Err e) = Unit {0}

abbrev pub Labels : ℕ → Option Heard → Type 0
Labels n None = Unit {0}
Labels n (Some h) = (h.listener < n) × (h.author < n) × (sound n h.author h.note ≡ true)

abbrev pub Labelled : ℕ → Result (Option Heard) Fault → Type 0
Labelled n (Ok t) = Labels n t
Labelled n (Err e) = Unit {0}

abbrev pub toil_limit : ℕ
toil_limit = 2 ^ 127
