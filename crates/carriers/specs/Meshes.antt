-- The rows of a chart on which every two craft are linked. Assumes nothing.
--   Meshed      every two of n craft are linked, and no others
--   meshed      a complete chart is so
--   not_own     nobody is its own neighbour
--   neighbour   everybody has one
use Rattle.std.specs.Prelude.{◌≡◌, ℕ, ◌<◌, ◌≤◌, true, false, List, length, ◌≢◌, slice_index, refl}
use Rattle.std.proofs.Common.{sym, ap, subst, ◌∙◌, ⊎_elim, arith}
use Rattle.std.proofs.lemmas.Bool.{cases_Bool, cases_eq, cases_order}
use Rattle.sets.specs.Sets.{has}
use Rattle.sets.proofs.Members.{has_in, in_has, in_positive}
use Rattle.charts.specs.Rows.{Linked}
use Rattle.cuts.specs.declared.complete.CompleteChart.{CompleteChart}
use Rattle.carriers.specs.ChartRows.{rows_long, row_is}
use Rattle.carriers.specs.Directs.{rows_of_chart}

pub record Meshed (rows : List ℕ) (n : ℕ) : Type 0 where
  pub long : length rows ≡ n
  pub all : (a b : ℕ) → a < n → b < n → (a ≢ b) → has (slice_index rows a) b ≡ true
  pub others : (a b : ℕ) → has (slice_index rows a) b ≡ true → (b < n) × (a ≢ b)

module _ (c : CompleteChart) where
  linked : (a b : ℕ) → a < c.chart.n → b < c.chart.n → (a ≢ b) → Linked c.chart.rows a b
  linked a b la lb ne =
      ⊎_elim (λ (q : a ≡ b). absurd (ne q))
      (⊎_elim
      (λ (l : a < b). c.complete (record { low = a; high = b; ordered = l; there = lb }))
      (λ (l : b < a). c.chart.mutual b a (c.complete (record { low = b; high = a; ordered = l; there = la }))))
      (cases_order a b)

  pub meshed : Meshed (rows_of_chart c) c.chart.n
  meshed = record {
    long = rows_long c.chart;
    all = λ a b la lb ne. ap (λ (r : ℕ). has r b) (sym (row_is c.chart a)) ∙ in_has (slice_index c.chart.rows a) b (linked a b la lb ne);
    others = λ a b h.
        let there : Linked c.chart.rows a b = has_in (slice_index c.chart.rows a) b (ap (λ (r : ℕ). has r b) (row_is c.chart a) ∙ h) in
        (c.chart.bounded a b there, λ q. c.chart.apart a (subst (λ (i : ℕ). Linked c.chart.rows a i) (sym q) there));
  }

module _ (rows : List ℕ) (n : ℕ) (w : Meshed rows n) where
  pub not_own : (a : ℕ) → has (slice_index rows a) a ≡ false
  not_own a =
      ⊎_elim (λ (e : has (slice_index rows a) a ≡ true). absurd ((w.others a a e).1 refl)) (λ e. e) (cases_Bool (has (slice_index rows a) a))

  pub neighbour : 2 ≤ n → (a : ℕ) → a < n → 0 < slice_index rows a
  neighbour two a la =
      ⊎_elim
      (λ (e : a ≡ 0). in_positive (slice_index rows a) 1 (has_in (slice_index rows a) 1 (w.all a 1 la (omega arith) (λ q. omega arith))))
      (λ ne. in_positive (slice_index rows a) 0 (has_in (slice_index rows a) 0 (w.all a 0 la (omega arith) ne)))
      (cases_eq a 0)
