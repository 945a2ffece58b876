-- How much room there is at the start. Assumes nothing.
--   roomy        both spares are at least 64
--   fresh_spare  a link service just started has room for 64 puts
use Rattle.std.proofs.Common.{◌≡◌, ℕ, ◌≤◌, min, arith}
use Rattle.std.proofs.lemmas.Bool.{ltb-false}
use Rattle.refusals.proofs.FirstCause.{passed}
use Rattle.charts.specs.declared.chart.Chart.{Chart}
use Rattle.links.specs.Meanings as links
use Rattle.links.specs.Meanings.{Laws}
use Rattle.links.specs.Calls.{Started}
use Rattle.shelves.specs.Lengths.{shelf_length}

pub roomy : (a b : ℕ) → 64 ≤ a → b ≡ shelf_length → 64 ≤ min a b
roomy a b p q = omega arith

module _ {L : Type 0} (m : L → links.Meaning) (laws : Laws m) where
  pub fresh_spare : (l l' : L) (c : Chart) → Started (m l) c (m l') → 64 ≤ (m l').spare
  fresh_spare l l' c start =
      let lent = ltb-false (m l).lent (m l).needed (passed _ _ _ start.accepted).0 in
      omega (arith, laws.full l' start.waiting, laws.roomy l lent, start.capacity)
