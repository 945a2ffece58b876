-- Why a pile is not opened. Assumes nothing.
--   pile_causes   on the chart of these rows, with f: what its carrier's test refuses (2, 3, 4)
use Rattle.std.specs.Prelude.{ℕ, List}
use Rattle.refusals.specs.Refusals.{Cause}
use Rattle.cuts.specs.Causes.{open_direct_causes, open_relay_causes}
use Rattle.rehearsal.specs.declared.piles.Pile.{Pile}
use Rattle.rehearsal.specs.declared.piles.Pile.TheVariants.{DirectEntries, DirectLog, RelayEntries, RelayLog}

abbrev pub pile_causes : Pile → List ℕ → ℕ → List Cause
pile_causes DirectEntries = open_direct_causes
pile_causes DirectLog = open_direct_causes
pile_causes RelayEntries = open_relay_causes
pile_causes RelayLog = open_relay_causes
