-- The direct carrier as it is opened, over any link service. Assumes nothing.
--   opened   a started link service and empty shelves make a carrier that nothing was done with
use Rattle.std.proofs.Common.{◌≡◌, ℕ, Bool, false, List, [], length, sym, refl, ap, subst}
use Rattle.std.proofs.lemmas.Bool.{both_ways}
use Rattle.frames.specs.declared.notes.Note.{Note}
use Rattle.cuts.specs.declared.complete.CompleteChart.{CompleteChart}
use Rattle.links.specs.declared.entries.Entry.{Entry}
use Rattle.links.specs.Meanings as links
use Rattle.links.specs.Meanings.{Laws}
use Rattle.shelves.specs.declared.kinds.Row.{Row}
use Rattle.shelves.specs.Rows.{heard_in}
use Rattle.shelves.specs.Shelves.{fewest, heard_on}
use Rattle.carriers.specs.declared.store.Store.{Store}
use Rattle.carriers.specs.Parts.{parts, StartedOn}
use Rattle.carriers.specs.Directs.{Flows, Opened}
use Rattle.carriers.proofs.Starting.{roomy, fresh_spare}

-- nothing was heard, and nothing waits
fresh_flows : (n astray : ℕ) (h : ℕ → ℕ → Note → Bool) → ((l a : ℕ) (x : Note) → h l a x ≡ false) → Flows n astray h []
fresh_flows n astray h none = record {
  linked = tt;
  truthful = tt;
  sound = λ a x e. absurd (both_ways _ (none a a x) e);
  said = λ l a x loyal e. absurd (both_ways _ (none l a x) e);
  due = λ l a x ll la ne e. absurd (both_ways _ (none a a x) e);
}

module _ {L : Type 0} (m : L → links.Meaning) (laws : Laws m) where
  pub opened : (l : L) (c : CompleteChart) (b : Store L) → StartedOn (m l) c.chart (parts m b 0) → Opened m l c (record { store = b; complete = c; astray = 0 })
  opened l c b on =
      let start = on.started in
      let at = b.table.at in
      let quiet : (p a : ℕ) (x : Note) → heard_on at p a x ≡ false = λ p a x. ap (λ (rs : List Row). heard_in rs a x) (on.shelves p) in
      record {
        started = on;
        complete = refl;
        fresh = record {
          heard = quiet;
          waiting = ap length start.waiting;
          astray = on.astray;
          spare = roomy (m b.links).spare (fewest at) (fresh_spare m laws l b.links c.chart start) on.free;
        };
        kept = record {
          rows = start.rows;
          flows = subst (λ (w : List Entry). Flows c.chart.n 0 (heard_on at) w) (sym start.waiting) (fresh_flows c.chart.n 0 (heard_on at) quiet);
        };
      }
