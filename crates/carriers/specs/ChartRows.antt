-- The rows of a chart, one for each craft. Assumes nothing.
--   rows_long   there are as many rows as craft
--   row_is      a row of a chart is that of its craft, and empty past them
use Rattle.std.proofs.Common.{◌≡◌, ℕ, ◌<◌, length, get_or, sym, ◌∙◌, ⊎_elim, arith, length-take}
use Rattle.std.proofs.lemmas.List.{get_or-take, get_or_past}
use Rattle.std.proofs.lemmas.Bool.{cases_lt}
use Rattle.charts.specs.declared.chart.Chart.{Chart}
use Rattle.charts.proofs.RowLaws.{past_empty}
use Rattle.links.specs.Meanings.{chart_rows}

module _ (c : Chart) where
  pub rows_long : length (chart_rows c) ≡ c.n
  rows_long = omega (arith, length-take c.n c.rows, c.full, c.few)

  pub row_is : (i : ℕ) → get_or c.rows i 0 ≡ get_or (chart_rows c) i 0
  row_is i =
      ⊎_elim
      (λ (l : i < c.n). sym (get_or-take c.n c.rows i 0 l))
      (λ g. past_empty c.n c.rows c.bounded c.mutual i g ∙ sym (get_or_past (chart_rows c) i 0 (omega (arith, rows_long))))
      (cases_lt i c.n)
