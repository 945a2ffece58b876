-- The worked examples. Assumes nothing.
use Rattle.std.proofs.Common.{◌≡◌, ℕ, List, length, Some, None, refl, ap, ◌∙◌, ⊎_elim, arith}
use Rattle.refusals.specs.Refusals.{Told, refusal}
use Rattle.charts.specs.InTurn.{in_turn}
use Rattle.charts.specs.Rows.{answered}
use Rattle.charts.specs.Causes.{WrongSize, WrongRow, sized, size_told, chart_causes}
use Rattle.charts.specs.Examples.{WorkedSizes, seven}
use Rattle.charts.proofs.CauseLaws.{size_refused, chart_refused}

six_refused : (rows : List ℕ) → length rows ≡ 6 → refusal (chart_causes rows 2) ≡ Some (size_told 6)
six_refused rows e = size_refused rows 2 (ap (λ (n : ℕ). sized n 2) e) ∙ ap (λ (n : ℕ). Some (size_told n)) e

seven_enough : (rows : List ℕ) (t : Told) → length rows ≡ 7 → refusal (chart_causes rows 2) ≡ Some t → t.number ≡ 3
seven_enough rows t e h = ⊎_elim
    (λ (w : WrongSize rows 2 t). absurd (w.wrong (omega arith, omega arith, omega arith)))
    (λ (w : WrongRow rows 2 t). ap (λ (x : Told). x.number) w.says) (chart_refused rows 2 t h)

pub seven_accepted : refusal (chart_causes seven 2) ≡ None
unfolding in_turn answered
seven_accepted = refl

pub worked_sizes_lem : WorkedSizes
worked_sizes_lem = record { six_refused = six_refused; seven_enough = seven_enough; seven_accepted = seven_accepted }
