-- Worked examples: two faulty craft want at least seven. Assumes nothing.
--   seven          the rows of seven craft, each linked with every other
--   WorkedSizes    whatever their rows, six craft are refused by 2 with 6, and seven by no cause but 3; the rows of `seven` make a chart
use Rattle.std.specs.Prelude.{◌≡◌, ℕ, List, [], ◌∷◌, length, Some, None}
use Rattle.refusals.specs.Refusals.{Told, refusal}
use Rattle.charts.specs.Causes.{chart_causes, size_told}

abbrev pub seven : List ℕ
seven = 126 ∷ 125 ∷ 123 ∷ 119 ∷ 111 ∷ 95 ∷ 63 ∷ []

pub record WorkedSizes : Type 0 where
  pub six_refused : (rows : List ℕ) → length rows ≡ 6 → refusal (chart_causes rows 2) ≡ Some (size_told 6)
  pub seven_enough : (rows : List ℕ) (t : Told) → length rows ≡ 7 → refusal (chart_causes rows 2) ≡ Some t → t.number ≡ 3
  pub seven_accepted : refusal (chart_causes seven 2) ≡ None
