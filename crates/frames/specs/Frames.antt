-- The fifteen bytes of a frame, and what a reader answers of any bytes. Assumes nothing.
--   frame_length, version   a frame has fifteen bytes and says version 1
--   layout         the bytes of a step's number, a head and a content
--   frame_bytes    the bytes of a frame
--   read_causes    why bytes are no frame: another length, in the first byte or in fact; another version; an unknown step
--   step_of, head_of, content_of   the parts of what was received
--   ReadsAs        what the reader answers: its parts are the bytes, each at its place
--   frame_made     the frame of a step, a head and a content's bytes
--   Taken          what was received, as a frame; a content that has not eight bytes is refused by 14
--   FrameRead      what a reader of whole frames answers: the bytes are those of the frame
--   Again          accepted bytes written again; others are refused as the reader does
use Rattle.std.specs.Prelude.{◌≡◌, ℕ, not, ◌&&◌, List, [], ◌∷◌, length, drop, Some, None, Ok, Err, Result, ◌==◌, nat_le, slice_index}
use Rattle.refusals.specs.declared.Fault.{Fault}
use Rattle.frames.specs.declared.notes.Step as steps
use Rattle.frames.specs.declared.notes.Step.TheVariants as step
use Rattle.frames.specs.declared.notes.Frame.{Frame}
use Rattle.frames.specs.declared.received.Head.{Head}
use Rattle.frames.specs.declared.received.Received.{Received}
use Rattle.frames.specs.declared.received.Received.TheVariants.{Send, Echo, Ready}
use Rattle.matter.specs.Words.{word_bytes, word_in}
use Rattle.frames.specs.Notes.{step_byte}
use Rattle.refusals.specs.Refusals.{Cause, cause, refusal, told}

abbrev pub frame_length : ℕ
frame_length = 15

abbrev pub version : ℕ
version = 1

abbrev pub layout : ℕ → Head → List ℕ → List ℕ
layout n h content = frame_length ∷ version ∷ n ∷ h.author ∷ h.origin ∷ h.number ∷ h.set ∷ content

abbrev pub head_in : Frame → Head
head_in f = record { author = f.author; origin = f.note.origin; number = f.note.number; set = f.set }

abbrev pub frame_bytes : Frame → List ℕ
frame_bytes f = layout (step_byte f.note.step) (head_in f) (word_bytes f.note.content)

abbrev pub read_causes : List ℕ → List Cause
read_causes bytes =
    cause 1 14 (0 ∷ []) (not (length bytes == frame_length && slice_index bytes 0 == frame_length))
    ∷ cause 1 15 (1 ∷ []) (not (slice_index bytes 1 == version))
    ∷ cause 1 16 (2 ∷ []) (not (nat_le 1 (slice_index bytes 2) && nat_le (slice_index bytes 2) 3))
    ∷ []

abbrev pub step_of : Received → steps.Step
step_of (Send h c) = step.Send
step_of (Echo h c) = step.Echo
step_of (Ready h c) = step.Ready

abbrev pub head_of : Received → Head
head_of (Send h c) = h
head_of (Echo h c) = h
head_of (Ready h c) = h

abbrev pub content_of : Received → List ℕ
content_of (Send h c) = c.now
content_of (Echo h c) = c.now
content_of (Ready h c) = c.now

abbrev pub ReadsAs : List ℕ → Result Received Fault → Type 0
ReadsAs bytes (Ok r) = (refusal (read_causes bytes) ≡ None) × (bytes ≡ layout (step_byte (step_of r)) (head_of r) (content_of r))
ReadsAs bytes (Err e) = refusal (read_causes bytes) ≡ Some (told e)

abbrev pub frame_made : steps.Step → Head → List ℕ → Frame
frame_made s h content = record {
  author = h.author;
  note = record { step = s; origin = h.origin; number = h.number; content = word_in content };
  set = h.set;
}

abbrev pub content_causes : List ℕ → List Cause
content_causes content = cause 1 14 (0 ∷ []) (not (length content == 8)) ∷ []

abbrev pub TakenApart : steps.Step → Head → List ℕ → Result Frame Fault → Type 0
TakenApart s h content (Ok f) = (refusal (content_causes content) ≡ None) × (f ≡ frame_made s h content)
TakenApart s h content (Err e) = refusal (content_causes content) ≡ Some (told e)

abbrev pub Taken : Received → Result Frame Fault → Type 0
Taken r f = TakenApart (step_of r) (head_of r) (content_of r) f

abbrev pub FrameRead : List ℕ → Result Frame Fault → Type 0
FrameRead bytes (Ok f) = (refusal (read_causes bytes) ≡ None) × (bytes ≡ frame_bytes f) × (f.note.content ≡ word_in (drop 7 bytes))
FrameRead bytes (Err e) = refusal (read_causes bytes) ≡ Some (told e)

abbrev pub Again : List ℕ → Result (List ℕ) Fault → Type 0
Again bytes (Ok bs) = (refusal (read_causes bytes) ≡ None) × (bs ≡ bytes)
Again bytes (Err e) = refusal (read_causes bytes) ≡ Some (told e)
