-- Bytes put into a buffer. Assumes nothing.
--   placed        a buffer with some bytes in it from a place on, and the others as they were
--   place_causes  why bytes cannot be put at a place: the buffer is too short, with the length needed, as far as a number goes
--   Puts          what a writer answers and leaves in the buffer
use Rattle.std.specs.Prelude.{◌≡◌, ℕ, ◌+◌, ◌-◌, ◌^◌, min, List, [], ◌∷◌, ◌++◌, length, take, drop, Some, None, Ok, Err, Result, nat_lt}
use Rattle.refusals.specs.declared.Fault.{Fault}
use Rattle.refusals.specs.Refusals.{Cause, cause, refusal, told}

abbrev pub placed : List ℕ → ℕ → List ℕ → List ℕ
placed buf at bs = take at buf ++ (bs ++ drop (at + length bs) buf)

abbrev pub place_causes : List ℕ → ℕ → ℕ → List Cause
place_causes buf at n = cause 1 13 (min (at + n) (2 ^ 64 - 1) ∷ []) (nat_lt (length buf) (at + n)) ∷ []

abbrev pub Puts : List ℕ → ℕ → List ℕ → Result Unit Fault → List ℕ → Type 0
Puts buf at bs (Ok _) after = (refusal (place_causes buf at (length bs)) ≡ None) × (after ≡ placed buf at bs)
Puts buf at bs (Err e) after = (refusal (place_causes buf at (length bs)) ≡ Some (told e)) × (after ≡ buf)
