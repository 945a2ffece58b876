use Rattle.std.proofs.Common.{◌∙◌}
use Rattle.sets.proofs.Counts.{count-below}
use Rattle.sets.proofs.Quorums.{counting}
use Rattle.sets.proofs.counting_laws.Goals as goal

pub returns : goal.returns
returns c = record { answer = c.count.ensures ∙ count-below 8; laws = counting }
