-- Notes are told apart by their parts. Assumes nothing.
--   same_step        steps with the same number are one
--   same_note_eq     notes with the same parts are one
--   same_note_self   a note has the parts that it has
use Rattle.std.proofs.Common.{◌≡◌, ℕ, true, refl, arith}
use Rattle.std.proofs.lemmas.Bool.{and_parts, and_from, eqb-true, eq-eqb}
use Rattle.frames.specs.declared.notes.Step as steps
use Rattle.frames.specs.declared.notes.Step.TheVariants as step
use Rattle.frames.specs.declared.notes.Note.{Note}
use Rattle.frames.specs.Notes.{step_byte, same_note}

pub same_step : (s t : steps.Step) → step_byte s ≡ step_byte t → s ≡ t
same_step step.Send step.Send e = refl
same_step step.Send step.Echo e = absurd (omega arith)
same_step step.Send step.Ready e = absurd (omega arith)
same_step step.Echo step.Send e = absurd (omega arith)
same_step step.Echo step.Echo e = refl
same_step step.Echo step.Ready e = absurd (omega arith)
same_step step.Ready step.Send e = absurd (omega arith)
same_step step.Ready step.Echo e = absurd (omega arith)
same_step step.Ready step.Ready e = refl

note_is : (s t : steps.Step) (o p k l v w : ℕ) → s ≡ t → o ≡ p → k ≡ l → v ≡ w
    → ◌≡◌ {A = Note} record { content = v; step = s; origin = o; number = k } record { content = w; step = t; origin = p; number = l }
note_is s t o p k l v w es eo ek ev = cc

pub same_note_eq : (t u : Note) → same_note t u ≡ true → t ≡ u
same_note_eq t u h =
    let p = and_parts _ _ h in
    let q = and_parts _ _ p.1 in
    let r = and_parts _ _ q.1 in
    note_is t.step u.step t.origin u.origin t.number u.number t.content u.content
    (same_step t.step u.step (eqb-true _ _ p.0)) (eqb-true _ _ q.0) (eqb-true _ _ r.0) (eqb-true _ _ r.1)

pub same_note_self : (t : Note) → same_note t t ≡ true
same_note_self t =
    and_from _ _ (eq-eqb _ (step_byte t.step) refl) (and_from _ _ (eq-eqb _ t.origin refl) (and_from _ _ (eq-eqb _ t.number refl) (eq-eqb _ t.content refl)))
