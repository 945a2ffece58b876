use Rattle.std.proofs.Common.{◌≡◌, ◌≤◌}
use Rattle.shelves.specs.Shelves.{rows_at}
use Rattle.pathsets.specs.Keys.{sets_of}
use Rattle.relaying.specs.Toil.{uncovered}
use Rattle.relay.proofs.toil.open_sets.Given as goal

abbrev pub invariant-loop-set : goal.invariant-loop-set
invariant-loop-set l = record {
  answer : l.open ≡ uncovered (sets_of l.key.0 l.key.1 (rows_at l.table.at l.craft)) l.set;
  few : l.open ≤ l.set;
}
