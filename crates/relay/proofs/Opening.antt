-- The relay as it is opened, over any link service. Assumes nothing.
--   opened   a started link service and empty shelves make a relay that nothing was done with
use Rattle.std.proofs.Common.{◌≡◌, ℕ, false, List, length, refl, ap}
use Rattle.frames.specs.declared.notes.Note.{Note}
use Rattle.cuts.specs.declared.passed.PassedChart.{PassedChart}
use Rattle.links.specs.Meanings as links
use Rattle.links.specs.Meanings.{Laws}
use Rattle.shelves.specs.declared.kinds.Row.{Row}
use Rattle.shelves.specs.Rows.{heard_in}
use Rattle.shelves.specs.Shelves.{fewest, heard_on}
use Rattle.relaying.specs.Laws.{fresh}
use Rattle.bases.specs.declared.base.Base.{Base}
use Rattle.carriers.specs.Parts.{StartedOn}
use Rattle.bases.specs.Parts.{parts}
use Rattle.carriers.proofs.Starting.{roomy, fresh_spare}
use Rattle.relay.specs.Relays.{Opened}

module _ {L : Type 0} (m : L → links.Meaning) (laws : Laws m) where
  pub opened : (l : L) (c : PassedChart) (b : Base L) → StartedOn (m l) c.chart (parts m b) → Opened m l c (record { base = b; passed = c })
  opened l c b on =
      let start = on.started in
      let at = b.store.table.at in
      let quiet : (p a : ℕ) (x : Note) → heard_on at p a x ≡ false = λ p a x. ap (λ (rs : List Row). heard_in rs a x) (on.shelves p) in
      record {
        started = on;
        passed = refl;
        fresh = record {
          heard = quiet;
          waiting = ap length start.waiting;
          astray = on.astray;
          spare = roomy (m b.store.links).spare (fewest at) (fresh_spare m laws l b.store.links c.chart start) on.free;
        };
        kept = record { rows = start.rows; reached = fresh (record { shelf = on.shelves; waiting = start.waiting; astray = on.astray }) };
      }
