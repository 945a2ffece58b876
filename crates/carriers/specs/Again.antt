-- What is said again. Assumes nothing.
--   adds_none   to hear what was heard before adds nothing
use Rattle.std.proofs.Common.{◌≡◌, ℕ, Bool, true, ◌&&◌, ◌||◌, eqb, sym, ap, ◌∙◌, ⊎_elim}
use Rattle.std.proofs.Math.Bool.{or-false}
use Rattle.std.proofs.lemmas.Bool.{cases_Bool, and_parts, or_left, eqb-true}
use Rattle.frames.specs.declared.notes.Note.{Note}
use Rattle.frames.specs.Notes.{same_note}
use Rattle.frames.proofs.NoteLaws.{same_note_eq}
use Rattle.agreement.specs.Meanings.{Meaning}
use Rattle.agreement.specs.Carrying.{Adds}

pub adds_none : (m : Meaning) (l a : ℕ) (x : Note) → m.heard l a x ≡ true → Adds m l a x m
adds_none m l a x e = record {
  at = λ p b y. ⊎_elim
      (λ (t : (eqb l p && (eqb a b && same_note x y)) ≡ true).
      let i = and_parts _ _ t in
      let j = and_parts _ _ i.1 in
      let there : m.heard p b y ≡ true = ap (λ (q : ℕ). m.heard q b y) (sym (eqb-true l p i.0)) ∙ ap (λ (q : ℕ). m.heard l q y) (sym (eqb-true a b j.0))
      ∙ ap (λ (z : Note). m.heard l a z) (sym (same_note_eq x y j.1)) ∙ e in
      there ∙ sym (or_left (m.heard p b y) _ there))
      (λ t. sym (or-false (m.heard p b y)) ∙ ap (λ (c : Bool). m.heard p b y || c) (sym t))
      (cases_Bool (eqb l p && (eqb a b && same_note x y)));
}
