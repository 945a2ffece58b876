use Rattle.std.proofs.Common.{◌≡◌, ◌+◌, ◌*◌, ◌≤◌, drop}
use Rattle.sets.specs.Sets.{labels}
use Rattle.relaying.specs.Distinct.{sum_distinct}
use Rattle.relaying.specs.Toil.{equal, label_sets}
use Rattle.relay.specs.Toils.{keys_in, open_in, all_open}
use Rattle.relay.proofs.kinds.Relay.all_open.Given as goal

-- what was summed and the sum over the rest of the keys make the whole sum
abbrev pub invariant-loop-i : goal.invariant-loop-i
invariant-loop-i g l = record {
  answer : l.open + sum_distinct equal (open_in l.self) (drop l.i (keys_in g.L.LinkService.meaning l.self)) ≡ all_open g.L.LinkService.meaning l.self;
  few : l.open ≤ label_sets * labels * l.i;
}
