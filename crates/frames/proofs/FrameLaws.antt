-- Reader and writer fit each other. Assumes nothing.
--   frame_accepted   the bytes of a frame are accepted
--   same_frame       frames with the same content and the same bytes are one
--   frame_read       what the reader took apart, as a frame, has the bytes that were read
--   reads_back       what reads the bytes of a frame answers that frame
use Rattle.std.proofs.Common.{◌≡◌, ℕ, suc, ◌^◌, ◌<◌, List, length, get_or, drop, None, Ok, Err, Result, sym, refl, ap, ◌∙◌, arith}
use Rattle.std.proofs.lemmas.Bool.{and_parts, eqb-true, not-false, eq-eqb, not_from_true, cond-false}
use Rattle.refusals.specs.declared.Fault.{Fault}
use Rattle.frames.specs.declared.notes.Step as steps
use Rattle.frames.specs.declared.notes.Step.TheVariants as step
use Rattle.frames.specs.declared.notes.Frame.{Frame}
use Rattle.frames.specs.declared.received.Head.{Head}
use Rattle.frames.specs.declared.received.Received.{Received}
use Rattle.matter.specs.Words.{word_bytes, word_in}
use Rattle.frames.specs.Frames.{layout, head_in, frame_bytes, read_causes, step_of, head_of, content_of, ReadsAs, Taken, TakenApart, FrameRead, content_causes}
use Rattle.frames.specs.Notes.{step_byte}
use Rattle.refusals.specs.Refusals.{refusal}
use Rattle.refusals.proofs.FirstCause.{passed}
use Rattle.frames.proofs.NoteLaws.{same_step}
use Rattle.matter.proofs.Words.{bytes_of_word_in, word_in_bytes}

layout-accepted : (s : steps.Step) (h : Head) (w : ℕ) → refusal (read_causes (layout (step_byte s) h (word_bytes w))) ≡ None
layout-accepted step.Send h w = refl
layout-accepted step.Echo h w = refl
layout-accepted step.Ready h w = refl

pub frame_accepted : (f : Frame) → refusal (read_causes (frame_bytes f)) ≡ None
frame_accepted f = layout-accepted f.note.step (head_in f) f.note.content

-- a frame is its fields
frame_is : (a b : ℕ) (s t : steps.Step) (o p k l v w c d : ℕ) → a ≡ b → s ≡ t → o ≡ p → k ≡ l → v ≡ w → c ≡ d
    → ◌≡◌ {A = Frame}
    record { author = a; note = record { step = s; origin = o; number = k; content = v }; set = c }
    record { author = b; note = record { step = t; origin = p; number = l; content = w }; set = d }
frame_is a b s t o p k l v w c d ea es eo ek ev ec = cc

pub same_frame : (f g : Frame) → f.note.content ≡ g.note.content → frame_bytes f ≡ frame_bytes g → f ≡ g
same_frame f g w e =
    let s = same_step f.note.step g.note.step (cc) in
    frame_is f.author g.author f.note.step g.note.step f.note.origin g.note.origin f.note.number g.note.number
    f.note.content g.note.content f.set g.set (cc) s (cc) (cc) w (cc)

-- accepted bytes are fifteen, so that eight are left for the content
content_eight : (bytes : List ℕ) (n : ℕ) (h : Head) (content : List ℕ) → refusal (read_causes bytes) ≡ None → bytes ≡ layout n h content → length content ≡ 8
content_eight bytes n h content ok e =
    let whole = and_parts _ _ (not-false _ (passed _ _ _ ok).0) in
    let l : length bytes ≡ 15 = eqb-true _ _ whole.0 in
    let m = ap length e in
    omega arith

-- a byte of the content is a byte that was read
content_fits : (bytes : List ℕ) (n : ℕ) (h : Head) (content : List ℕ) → bytes ≡ layout n h content → ((i : ℕ) → get_or bytes i 0 < 256) → (i : ℕ) → get_or content i 0 < 256
content_fits bytes n h content e fits i =
    let g : get_or bytes (suc (suc (suc (suc (suc (suc (suc i))))))) 0 ≡ get_or content i 0 = ap (λ (l : List ℕ). get_or l (suc (suc (suc (suc (suc (suc (suc i))))))) 0) e in
    omega (arith, fits (suc (suc (suc (suc (suc (suc (suc i))))))))

taken : (bytes : List ℕ) (s : steps.Step) (h : Head) (content : List ℕ) (f : Result Frame Fault) → ((i : ℕ) → get_or bytes i 0 < 256)
    → refusal (read_causes bytes) ≡ None → bytes ≡ layout (step_byte s) h content → TakenApart s h content f → FrameRead bytes f
taken bytes s h content (Ok f) fits ok e t =
    let w = bytes_of_word_in content (content_eight bytes (step_byte s) h content ok e) (content_fits bytes (step_byte s) h content e fits) in (
      ok,
      e ∙ ap (λ (l : List ℕ). layout (step_byte s) h l) (sym w) ∙ ap frame_bytes (sym t.1),
      ap (λ (g : Frame). g.note.content) t.1 ∙ ap (λ (l : List ℕ). word_in (drop 7 l)) (sym e),
    )
taken bytes s h content (Err x) fits ok e t =
    let l = content_eight bytes (step_byte s) h content ok e in
    let none : refusal (content_causes content) ≡ None = cond-false _ _ _ (not_from_true _ (eq-eqb _ _ l)) in
    let z : ◌≡◌ {A = ℕ} 0 1 = cc in
    absurd (omega arith)

pub frame_read : (bytes : List ℕ) (r : Received) (f : Result Frame Fault) → ((i : ℕ) → get_or bytes i 0 < 256) → ReadsAs bytes (Ok r) → Taken r f → FrameRead bytes f
frame_read bytes r f fits h t = taken bytes (step_of r) (head_of r) (content_of r) f fits h.0 h.1 t

pub reads_back : (f : Frame) (r : Result Frame Fault) → f.note.content < 2 ^ 64 → FrameRead (frame_bytes f) r → r ≡ Ok f
reads_back f (Ok g) small h = ap Ok (sym (same_frame f g (sym (h.2 ∙ word_in_bytes f.note.content small)) h.1))
reads_back f (Err e) small h =
    let a = frame_accepted f in
    let z : ◌≡◌ {A = ℕ} 0 1 = cc in
    absurd (omega arith)
