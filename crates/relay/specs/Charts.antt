-- The chart of a relay. Assumes nothing.
--   charted      a chart that passed names rightly
--   last_link    a walk between two different craft ends with a link
--   neighbour    on a chart that passed, every craft has a neighbour
use Rattle.std.specs.Prelude.{◌≡◌, ℕ, ◌<◌, List, ◌≢◌, slice_index, refl}
use Rattle.std.proofs.Common.{sym, ⊎_elim, arith}
use Rattle.std.proofs.lemmas.Bool.{cases_eq}
use Rattle.sets.proofs.Bits.{bit-zero}
use Rattle.sets.proofs.Counts.{count-zero}
use Rattle.sets.proofs.Members.{in_positive}
use Rattle.charts.specs.Rows.{Linked}
use Rattle.cuts.specs.declared.passed.PassedChart.{PassedChart}
use Rattle.cuts.specs.Walks.{Walk, here, on}
use Rattle.cuts.proofs.PassedLaws.{passed_walks_lem}
use Rattle.relaying.specs.Laws.{Charted}

pub charted : (c : PassedChart) → Charted c.chart.n c.chart.rows
charted c = record { apart = c.chart.apart; bounded = c.chart.bounded; both_ways = c.chart.mutual }

last_link : {rows : List ℕ} {s u v : ℕ} → Walk rows s u v → (u ≢ v) → (w : ℕ) × Linked rows w v
last_link (here {u = i} o) ne = absurd (ne refl)
last_link (on {v = w} wk l o) ne = (w, l)

pub neighbour : (c : PassedChart) (a : ℕ) → a < c.chart.n → 0 < slice_index c.chart.rows a
neighbour c a la = ⊎_elim (λ (e : a ≡ 0). from 1 (omega (arith, c.chart.few)) (λ q. omega arith)) (λ ne. from 0 (omega arith) (λ q. ne (sym q))) (cases_eq a 0)
  where
    from : (v : ℕ) → v < c.chart.n → (v ≢ a) → 0 < slice_index c.chart.rows a
    from v lv ne =
        let walk = passed_walks_lem c.chart.n c.f c.chart.rows c.chart.bounded c.chart.mutual c.passed v a 0 lv la (bit-zero v) (bit-zero a) (omega (arith, count-zero)) in
        let w = last_link walk ne in
        in_positive (slice_index c.chart.rows a) w.0 (c.chart.mutual w.0 a w.1)
