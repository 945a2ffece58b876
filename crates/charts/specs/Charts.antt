-- What the calls on charts answer. Assumes nothing.
--   Accepted   the chart is that of the rows: as many craft, the rows in their order, and no other links
--   Made       a chart of the rows, refused exactly by the first cause
use Rattle.std.specs.Prelude.{◌≡◌, ℕ, ◌⊎◌, List, length, take, Some, None, Ok, Err, Result}
use Rattle.refusals.specs.declared.Fault.{Fault}
use Rattle.refusals.specs.Refusals.{refusal, told}
use Rattle.charts.specs.declared.chart.Chart.{Chart}
use Rattle.charts.specs.Rows.{Sound, padded}
use Rattle.charts.specs.Causes.{Sized, WrongSize, WrongRow, chart_causes}

pub record Accepted (given : List ℕ) (f : ℕ) (c : Chart) : Type 0 where
  pub size : c.n ≡ length given
  pub whole : c.rows ≡ padded given
  pub front : take c.n c.rows ≡ given
  pub enough : Sized (length given) f
  pub sound : Sound (length given) given

abbrev pub Made : List ℕ → ℕ → Result Chart Fault → Type 0
Made rows f (Ok c) = (refusal (chart_causes rows f) ≡ None) × Accepted rows f c
Made rows f (Err e) = (refusal (chart_causes rows f) ≡ Some (told e)) × (WrongSize rows f (told e) ⊎ WrongRow rows f (told e))
