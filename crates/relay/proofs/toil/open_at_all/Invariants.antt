use Rattle.std.proofs.Common.{◌≡◌, ◌*◌, ◌≤◌}
use Rattle.shelves.specs.Shelves.{rows_at}
use Rattle.relaying.specs.Toil.{label_sets}
use Rattle.relay.specs.Toils.{open_below}
use Rattle.relay.proofs.toil.open_at_all.Given as goal

abbrev pub invariant-loop-craft : goal.invariant-loop-craft
invariant-loop-craft l = record {
  answer : l.open ≡ open_below (rows_at l.table.at) l.craft l.key;
  few : l.open ≤ label_sets * l.craft;
}
