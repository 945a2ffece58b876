-- Notes: what craft say, and when an author may say it. Assumes nothing.
--   step_byte     1 Send, 2 Echo, 3 Ready
--   step_name     a step by its number
--   step_causes   why a number is that of no step
--   StepRead      what a reader of a step's number answers: the step that has it
--   is_send       whether it is the first of them
--   last_number   orders of one craft are numbered 0 to 3
--   note          the note of a step, an origin, a number and a content
--   same_note     whether two notes have the same parts
--   sound         by this author, among n craft: the origin is one of them, the number at most 3, and a Send has its author as origin
use Rattle.std.specs.Prelude.{◌≡◌, ℕ, Bool, true, false, cond, not, ◌&&◌, ◌||◌, List, [], ◌∷◌, Some, None, Ok, Err, Result, codes, ◌==◌, nat_le, nat_lt}
use Rattle.refusals.specs.declared.Fault.{Fault}
use Rattle.refusals.specs.Refusals.{Cause, cause, refusal, told}
use Rattle.frames.specs.declared.notes.Step.{Step}
use Rattle.frames.specs.declared.notes.Step.TheVariants.{Send, Echo, Ready}
use Rattle.frames.specs.declared.notes.Note.{Note}

abbrev pub step_byte : Step → ℕ
step_byte Send = 1
step_byte Echo = 2
step_byte Ready = 3

abbrev pub step_name : ℕ → List ℕ
step_name n = cond (n == 1) (codes "send") (cond (n == 2) (codes "echo") (codes "ready"))

abbrev pub step_causes : ℕ → List Cause
step_causes n = cause 1 16 (2 ∷ []) (not (nat_le 1 n && nat_le n 3)) ∷ []

abbrev pub StepRead : ℕ → Result Step Fault → Type 0
StepRead n (Ok s) = (refusal (step_causes n) ≡ None) × (step_byte s ≡ n)
StepRead n (Err e) = refusal (step_causes n) ≡ Some (told e)

abbrev pub is_send : Step → Bool
is_send Send = true
is_send Echo = false
is_send Ready = false

abbrev pub last_number : ℕ
last_number = 3

abbrev pub note : Step → ℕ → ℕ → ℕ → Note
note x o k w = record { step = x; origin = o; number = k; content = w }

abbrev pub same_note : Note → Note → Bool
same_note t u = step_byte t.step == step_byte u.step && (t.origin == u.origin && (t.number == u.number && t.content == u.content))

abbrev pub sound : ℕ → ℕ → Note → Bool
sound n author x = nat_lt x.origin n && (nat_le x.number last_number && (not (is_send x.step) || x.origin == author))
