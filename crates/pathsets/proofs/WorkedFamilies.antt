-- Worked examples: what is heard by what is held. Assumes nothing.
--   worked_families_lem   the examples
--   of_one, of_two, of_three   the same of rows, as the code has them
use Rattle.std.proofs.Common.{◌≡◌, ℕ, true, false, List, [], ◌∷◌, refl, ⊎_elim}
use lib.Count.{ones}
use Rattle.frames.specs.declared.notes.Note.{Note}
use Rattle.frames.specs.declared.notes.Step.TheVariants.{Send}
use Rattle.frames.specs.Notes.{note}
use Rattle.shelves.specs.declared.kinds.Row.{Row}
use Rattle.shelves.specs.Rows.{row_of}
use Rattle.std.proofs.lemmas.Bool.{cases_Bool, not-true, not-false, not_from_false}
use Rattle.std.proofs.lemmas.Bool.Decides.{not_from_Decides}
use Rattle.pathsets.specs.Hitting.{tried, hittable, Hittable}
use Rattle.pathsets.specs.Keys.{sets_of}
use Rattle.pathsets.specs.Steps.{hears}
use Rattle.pathsets.specs.Examples.{WorkedFamilies}
use Rattle.pathsets.proofs.HittingLaws.{hittable_decides, none_hit}

quiet : (f : ℕ) (ss : List ℕ) → hears f ss ≡ false → Hittable f ss
quiet f ss h = (hittable_decides f ss).0 (not-false _ h)

heard : (f : ℕ) (ss : List ℕ) → hears f ss ≡ true → Hittable f ss → ⊥
heard f ss h = not_from_Decides (hittable f ss) (hittable_decides f ss) (not-true _ h)

always : (s : ℕ) (ss : List ℕ) → hears 0 (s ∷ ss) ≡ true
always s ss = ⊎_elim
    (λ (h : hittable 0 (s ∷ ss) ≡ true). absurd (none_hit s ss ((hittable_decides 0 (s ∷ ss)).0 h)))
    (λ h. not_from_false _ h) (cases_Bool (hittable 0 (s ∷ ss)))

pub worked_families_lem : WorkedFamilies
unfolding hittable tried ones
worked_families_lem = record {
  one = refl;
  one_hit = quiet 1 (0b00100 ∷ []) refl;
  two = refl;
  two_hit = heard 1 (0b00100 ∷ 0b01000 ∷ []) refl;
  pairs = refl;
  pairs_hit = quiet 1 (0b01100 ∷ 0b10100 ∷ []) refl;
  triangle = refl;
  triangle_hit = heard 1 (0b01100 ∷ 0b10100 ∷ 0b11000 ∷ []) refl;
  any = always;
  any_hit = none_hit;
  none = refl;
  none_hit = quiet 0 [] refl;
}

-- ---- of rows

abbrev some_note : Note
some_note = note Send 0 0 0

module _ (y : Note) (default : y ≡ some_note) where
  pub of_one : (r : Row) (s : ℕ) → r ≡ row_of 0 some_note s → hittable 1 (sets_of 0 y (r ∷ [])) ≡ hittable 1 (s ∷ [])
  of_one r s p = rw (default, p) refl

  pub of_two : (r r' : Row) (s s' : ℕ) → r ≡ row_of 0 some_note s → r' ≡ row_of 0 some_note s'
      → hittable 1 (sets_of 0 y (r ∷ r' ∷ [])) ≡ hittable 1 (s ∷ s' ∷ [])
  of_two r r' s s' p q = rw (default, p, q) refl

  pub of_three : (r r' r'' : Row) (s s' s'' : ℕ) → r ≡ row_of 0 some_note s → r' ≡ row_of 0 some_note s' → r'' ≡ row_of 0 some_note s''
      → hittable 1 (sets_of 0 y (r ∷ r' ∷ r'' ∷ [])) ≡ hittable 1 (s ∷ s' ∷ s'' ∷ [])
  of_three r r' r'' s s' s'' p q t = rw (default, p, q, t) refl
