use Rattle.std.proofs.Common.{arith}
use Rattle.sets.proofs.LowestMember.{lowest_below, lowest_member}
use Rattle.sets.proofs.lowest.Goals as goal

pub returns-else-set-eq0 : goal.returns-else-set-eq0
returns-else-set-eq0 c =
    (lowest_below 8 c.args.set (omega arith) (omega arith), lowest_member 8 c.args.set (omega arith) (omega arith))
