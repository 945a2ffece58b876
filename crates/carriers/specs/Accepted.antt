-- What a call that is not refused is known to have. Assumes nothing.
--   MaySay, may_say         the author is a craft, the note is sound by it, and there is room
--   MayCarry, may_carry     the index is below the count of what waits, and there is room
--   MayMeddle, may_meddle   both are craft, they are linked, fewer than f others are astray, and there is room
--   judged_say, judged_carry, judged_meddle
--                           what the code judged by is what the carrier means
use Rattle.std.specs.Prelude.{◌≡◌, ℕ, ◌<◌, true, false, None, Option, ◌==◌}
use Rattle.std.proofs.Common.{sym, ap, ◌∙◌, arith}
use Rattle.std.proofs.lemmas.Bool.{leb-false, eqb-false, not-false}
use Rattle.sets.specs.Sets.{has, others}
use Rattle.refusals.specs.Refusals.{Told, refusal}
use Rattle.refusals.proofs.FirstCause.{clear}
use Rattle.frames.specs.declared.notes.Note.{Note}
use Rattle.frames.specs.Notes.{sound}
use Rattle.carriers.specs.Judging.{saying_causes, carrying_causes, meddling_causes}

roomy : (s : ℕ) → (s == 0) ≡ false → 0 < s
roomy s h = let ne = eqb-false s 0 h in omega arith

pub record MaySay (n s a : ℕ) (x : Note) : Type 0 where
  pub label : a < n
  pub sound : sound n a x ≡ true
  pub room : 0 < s

pub may_say : (n s a : ℕ) (x : Note) → refusal (saying_causes n s a x) ≡ None → MaySay n s a x
may_say n s a x h =
    let c = clear (saying_causes n s a x) h in
    record { label = leb-false n a c.0; sound = not-false (sound n a x) c.1.0; room = roomy s c.1.1.0 }

pub record MayCarry (w s k : ℕ) : Type 0 where
  pub index : k < w
  pub room : 0 < s

pub may_carry : (w s k : ℕ) → refusal (carrying_causes w s k) ≡ None → MayCarry w s k
may_carry w s k h =
    let c = clear (carrying_causes w s k) h in
    record { index = leb-false w k c.0; room = roomy s c.1.0 }

pub record MayMeddle (n f row astray s c to : ℕ) : Type 0 where
  pub meddler : c < n
  pub other : to < n
  pub linked : has row to ≡ true
  pub few : others c astray < f
  pub room : 0 < s

pub may_meddle : (n f row astray s c to : ℕ) → refusal (meddling_causes n f row astray s c to) ≡ None → MayMeddle n f row astray s c to
may_meddle n f row astray s c to h =
    let q = clear (meddling_causes n f row astray s c to) h in
    record {
      meddler = leb-false n c q.0;
      other = leb-false n to q.1.0;
      linked = not-false (has row to) q.1.1.0;
      few = leb-false f (others c astray) q.1.1.1.0;
      room = roomy s q.1.1.1.1.0;
    }

pub judged_say : (n a : ℕ) (x : Note) {s s' : ℕ} {o : Option Told} → s ≡ s' → refusal (saying_causes n s a x) ≡ o → refusal (saying_causes n s' a x) ≡ o
judged_say n a x p h = ap (λ (i : ℕ). refusal (saying_causes n i a x)) (sym p) ∙ h

pub judged_carry : (k : ℕ) {w w' s s' : ℕ} {o : Option Told} → w ≡ w' → s ≡ s' → refusal (carrying_causes w s k) ≡ o → refusal (carrying_causes w' s' k) ≡ o
judged_carry k {w} {w'} {s} {s'} p q h = ap (λ (i : ℕ). refusal (carrying_causes i s' k)) (sym p) ∙ ap (λ (i : ℕ). refusal (carrying_causes w i k)) (sym q) ∙ h

pub judged_meddle : (n f b c to : ℕ) {r r' s s' : ℕ} {o : Option Told} → r ≡ r' → s ≡ s' → refusal (meddling_causes n f r b s c to) ≡ o → refusal (meddling_causes n f r' b s' c to) ≡ o
judged_meddle n f b c to {r} {r'} {s} {s'} p q h =
    ap (λ (i : ℕ). refusal (meddling_causes n f i b s' c to)) (sym p) ∙ ap (λ (i : ℕ). refusal (meddling_causes n f r b i c to)) (sym q) ∙ h
