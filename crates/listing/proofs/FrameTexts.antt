-- What a line says of bytes is what they are read as. Assumes nothing.
--   matter_read     what a word is read as has the text of the word
--   matter_unread   a word that is not read has the text `unknown`
--   text_of_read    the text of bytes that are a frame is the text of that frame
--   entry_of_read   the entry of what bytes are read as is the text of the bytes
--   captured_as_read   the entry of what captured bytes are read as says what the line does
use Rattle.std.proofs.Common.{◌≡◌, ℕ, List, [], ◌∷◌, get_or, drop, codes, Some, None, Ok, Err, Option, Result, sym, ap, ◌∙◌}
use Rattle.std.specs.Prelude.{MatchResult}
use Rattle.std.specs.Borrow.{Bor}
use Rattle.refusals.specs.declared.Fault.{Fault}
use Rattle.refusals.specs.Refusals.{Told}
use Rattle.matter.specs.declared.any_matter.AnyMatter.{AnyMatter}
use Rattle.matter.specs.AnyKind.{all_kinds, any_kind, any_fields}
use Rattle.matter.specs.Layouts.{Kind, Reads, numbered, top, word_refusal}
use Rattle.matter.specs.Texts.{kind_text, any_text}
use Rattle.matter.specs.Words.{word_in}
use Rattle.frames.specs.declared.notes.Frame.{Frame}
use Rattle.frames.specs.Frames.{frame_bytes, FrameRead}
use Rattle.frames.specs.Lines.{hexes}
use Rattle.frames.specs.Notes.{step_name}
use Rattle.listing.specs.Text.{columns, matter_text, text_of, told_matter, told_frame, frame_text, entry_text, captured_text}

pub matter_read : (w : ℕ) (m : AnyMatter) → Reads all_kinds w (any_kind m) (any_fields m) → any_text m ≡ matter_text w
matter_read w m h =
    sym (ap (λ (o : Option Told). told_matter o (numbered all_kinds (top w)) w) h.accepted
    ∙ ap (λ (o : Option Kind). told_matter None o w) h.kind
    ∙ ap (λ (vs : List ℕ). kind_text (any_kind m) vs) h.values)

pub matter_unread : (w : ℕ) (t : Told) → word_refusal all_kinds w ≡ Some t → codes "unknown" ≡ matter_text w
matter_unread w t h = sym (ap (λ (o : Option Told). told_matter o (numbered all_kinds (top w)) w) h)

pub text_of_read : (bytes : List ℕ) (f : Frame) → FrameRead bytes (Ok f) → text_of f ≡ frame_text bytes
text_of_read bytes f h =
    let accepted : frame_text bytes ≡ told_frame None bytes = ap (λ (o : Option Told). told_frame o bytes) h.0 in
    let word : word_in (drop 7 (frame_bytes f)) ≡ f.note.content = ap (λ (l : List ℕ). word_in (drop 7 l)) (sym h.1) ∙ sym h.2 in
    let bare : told_frame None bytes ≡ told_frame None (frame_bytes f) = ap (λ (l : List ℕ). told_frame None l) h.1 in
    sym (accepted ∙ bare ∙ ap (λ (w : ℕ). columns (step_name (get_or (frame_bytes f) 2 0)) f.author f.note.origin f.note.number (hexes (f.set ∷ [])) (hexes (drop 7 (frame_bytes f))) (matter_text w)) word)

pub entry_of_read : (bytes : List ℕ) (r : Result Frame Fault) → FrameRead bytes r → entry_text r ≡ frame_text bytes
entry_of_read bytes (Ok f) h = text_of_read bytes f h
entry_of_read bytes (Err e) h = ap (λ (o : Option Told). told_frame o bytes) (sym h)

pub captured_as_read : (captured : Result (Bor (List ℕ)) Fault) (r : Result Frame Fault) → MatchResult captured (λ b. FrameRead b.now r) (λ e. r ≡ Err e)
    → entry_text r ≡ captured_text captured
captured_as_read (Ok b) r h = entry_of_read b.now r h
captured_as_read (Err e) r h = ap entry_text h
