-- A capture of frames as text, a line for each. Assumes nothing.
--   matter_text   the matter of a word: its kind and its values, or "unknown" where it is of no kind
--   text_of       a frame in words: step, author, origin, number, set, content and matter
--   frame_text    the frame that bytes are, in words, or "refused" and the number of the refusal
--   entry_text    a frame in words, or a fault
--   captured_text   what a line says of captured bytes
--   line          a count, a space, a text, a line feed
--   short         a length byte of 0, or of more than there is
--   lines         the lines of a capture, from a count on, at most k of them
--   listing       all lines of a capture
--   NextIs        what stands next in a capture, and what is left of the capture after it
--   InOrder       frames one after the other have their lines one after the other
use Rattle.std.specs.Prelude.{◌≡◌, ℕ, zero, suc, ◌+◌, ◌<◌, Bool, true, false, cond, ◌||◌, List, [], ◌∷◌, ◌++◌, length, take, drop, Some, None, codes, decimal, Option, Ok, Err, Result, ◌==◌, nat_lt, slice_index}
use Rattle.std.specs.Borrow.{Bor}
use Rattle.refusals.specs.declared.Fault.{Fault}
use Rattle.refusals.specs.declared.Layer.TheVariants.{Frames}
use Rattle.refusals.specs.declared.Refusal.TheVariants.{Cut}
use Rattle.refusals.specs.Refusals.{Told, refusal, fault_text}
use Rattle.matter.specs.AnyKind.{all_kinds}
use Rattle.matter.specs.Layouts.{Kind, numbered, top, unpacked, word_refusal}
use Rattle.matter.specs.Texts.{spaced, kind_text}
use Rattle.matter.specs.Words.{word_bytes, word_in}
use Rattle.frames.specs.declared.notes.Frame.{Frame}
use Rattle.frames.specs.Frames.{frame_bytes, read_causes}
use Rattle.frames.specs.Lines.{hexes}
use Rattle.frames.specs.Notes.{step_byte, step_name}

abbrev pub told_matter : Option Told → Option Kind → ℕ → List ℕ
told_matter (Some t) k w = codes "unknown"
told_matter None None w = codes "unknown"
told_matter None (Some k) w = kind_text k (unpacked k.layout w)

abbrev pub matter_text : ℕ → List ℕ
matter_text w = told_matter (word_refusal all_kinds w) (numbered all_kinds (top w)) w

-- the columns of an accepted frame, one space between
abbrev pub columns : List ℕ → ℕ → ℕ → ℕ → List ℕ → List ℕ → List ℕ → List ℕ
columns name author origin number set content matter =
    name ++ spaced (author ∷ origin ∷ number ∷ []) (32 ∷ (set ++ (32 ∷ (content ++ (32 ∷ matter)))))

abbrev pub text_of : Frame → List ℕ
text_of f =
    columns (step_name (step_byte f.note.step)) f.author f.note.origin f.note.number
    (hexes (f.set ∷ [])) (hexes (word_bytes f.note.content)) (matter_text f.note.content)

abbrev pub told_frame : Option Told → List ℕ → List ℕ
told_frame (Some t) bytes = codes "refused " ++ decimal t.number
told_frame None bytes =
    columns (step_name (slice_index bytes 2)) (slice_index bytes 3) (slice_index bytes 4) (slice_index bytes 5)
    (hexes (slice_index bytes 6 ∷ [])) (hexes (drop 7 bytes)) (matter_text (word_in (drop 7 bytes)))

abbrev pub frame_text : List ℕ → List ℕ
frame_text bytes = told_frame (refusal (read_causes bytes)) bytes

abbrev pub entry_text : Result Frame Fault → List ℕ
entry_text (Ok f) = text_of f
entry_text (Err e) = fault_text e

abbrev pub captured_text : Result (Bor (List ℕ)) Fault → List ℕ
captured_text (Ok frame) = frame_text frame.now
captured_text (Err e) = fault_text e

abbrev pub line : ℕ → List ℕ → List ℕ
line n text = decimal n ++ (32 ∷ (text ++ (10 ∷ [])))

abbrev pub short : List ℕ → Bool
short bytes = slice_index bytes 0 == 0 || nat_lt (length bytes) (slice_index bytes 0)

unfoldable pub lines : ℕ → ℕ → List ℕ → List ℕ
lines zero n bytes = []
lines (suc k) n [] = []
lines (suc k) n (l ∷ bytes) =
    cond (short (l ∷ bytes)) (line n (codes "refused 14")) (line n (frame_text (take l (l ∷ bytes))) ++ lines k (n + 1) (drop l (l ∷ bytes)))

abbrev pub listing : List ℕ → List ℕ
listing bytes = lines (length bytes) 1 bytes

abbrev pub NextIs : List ℕ → Option (Result (Bor (List ℕ)) Fault) → List ℕ → Type 0
NextIs bytes None after = (bytes ≡ []) × (after ≡ [])
NextIs bytes (Some (Err e)) after = (0 < length bytes) × (short bytes ≡ true) × (e ≡ record { layer = Frames; refusal = Cut }) × (after ≡ [])
NextIs bytes (Some (Ok frame)) after =
    (0 < length bytes) × (short bytes ≡ false) × (frame.now ≡ take (slice_index bytes 0) bytes) × (after ≡ drop (slice_index bytes 0) bytes)

abbrev pub all_bytes : List Frame → List ℕ
all_bytes [] = []
all_bytes (f ∷ fs) = frame_bytes f ++ all_bytes fs

abbrev pub all_lines : ℕ → List Frame → List ℕ
all_lines n [] = []
all_lines n (f ∷ fs) = line n (frame_text (frame_bytes f)) ++ all_lines (n + 1) fs

abbrev pub InOrder : Type 0
InOrder = (fs : List Frame) → listing (all_bytes fs) ≡ all_lines 1 fs
