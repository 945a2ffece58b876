-- Why a call of a carrier is refused, by what it is judged by: the causes in the order in which they are tested, no room last.
-- The carrier is layer 3. Assumes nothing.
--   author_causes     of n craft: the author is no craft (1), the note is not sound by it (5)
--   index_causes      the index is not below the count of what waits (7)
--   meddler_causes    the meddler is no craft (1), nor the craft that it meddles to (1); there is no link (9); f others are astray (10)
--   room_causes       no room is left (8)
--   saying_causes, carrying_causes, meddling_causes   the causes of a say, a carry and a meddle: those above, and then no room
--   Judged            what a judge of these causes answers
use Rattle.std.specs.Prelude.{◌≡◌, ℕ, not, List, [], ◌∷◌, ◌++◌, Some, None, Ok, Err, Result, ◌==◌, nat_le}
use Rattle.sets.specs.Sets.{has, others}
use Rattle.refusals.specs.declared.Fault.{Fault}
use Rattle.refusals.specs.Refusals.{Cause, cause, refusal, told}
use Rattle.frames.specs.declared.notes.Note.{Note}
use Rattle.frames.specs.Notes.{sound}

abbrev pub author_causes : ℕ → ℕ → Note → List Cause
author_causes n a t = cause 3 1 (a ∷ []) (nat_le n a) ∷ cause 3 5 (t.number ∷ []) (not (sound n a t)) ∷ []

abbrev pub index_causes : ℕ → ℕ → List Cause
index_causes waiting k = cause 3 7 (waiting ∷ []) (nat_le waiting k) ∷ []

abbrev pub meddler_causes : ℕ → ℕ → ℕ → ℕ → ℕ → ℕ → List Cause
meddler_causes n f row astray c to =
    cause 3 1 (c ∷ []) (nat_le n c)
    ∷ cause 3 1 (to ∷ []) (nat_le n to)
    ∷ cause 3 9 (c ∷ []) (not (has row to))
    ∷ cause 3 10 (c ∷ []) (nat_le f (others c astray))
    ∷ []

abbrev pub room_causes : ℕ → List Cause
room_causes spare = cause 3 8 (spare ∷ []) (spare == 0) ∷ []

abbrev pub saying_causes : ℕ → ℕ → ℕ → Note → List Cause
saying_causes n spare a t = author_causes n a t ++ room_causes spare

abbrev pub carrying_causes : ℕ → ℕ → ℕ → List Cause
carrying_causes waiting spare k = index_causes waiting k ++ room_causes spare

abbrev pub meddling_causes : ℕ → ℕ → ℕ → ℕ → ℕ → ℕ → ℕ → List Cause
meddling_causes n f row astray spare c to = meddler_causes n f row astray c to ++ room_causes spare

abbrev pub Judged : List Cause → Result Unit Fault → Type 0
Judged cs (Ok _) = refusal cs ≡ None
Judged cs (Err e) = refusal cs ≡ Some (told e)
