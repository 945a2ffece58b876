use Rattle.std.proofs.Common.{◌≡◌, drop}
use Rattle.relaying.specs.Distinct.{among}
use Rattle.relaying.specs.Toil.{equal}
use Rattle.relay.specs.Toils.{keys_in}
use Rattle.relay.proofs.kinds.Relay.stands_from.Given as goal

-- the key does not stand between the start and here
abbrev pub invariant-loop-i : goal.invariant-loop-i
invariant-loop-i g l =
    among equal l.key (drop l.i (keys_in g.L.LinkService.meaning l.self))
    ≡ among equal l.key (drop l.start (keys_in g.L.LinkService.meaning l.self))
