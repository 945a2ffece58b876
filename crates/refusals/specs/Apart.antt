-- Refusals are told apart by number and values. Assumes nothing.
--   NumbersTo   each refusal has a number from 1 to a given one
--   ToldApart   two refusals with the same number and the same values are one
use Rattle.std.specs.Prelude.{◌≡◌, ℕ, ◌≤◌}
use Rattle.refusals.specs.declared.Refusal.{Refusal}
use Rattle.refusals.specs.Refusals.{number_of, values_of}

abbrev pub NumbersTo : ℕ → Type 0
NumbersTo n = (x : Refusal) → (1 ≤ number_of x) × (number_of x ≤ n)

abbrev pub ToldApart : Type 0
ToldApart = (x y : Refusal) → number_of x ≡ number_of y → values_of x ≡ values_of y → x ≡ y
