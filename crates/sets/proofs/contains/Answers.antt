use Rattle.std.proofs.Common.{sym, ◌∙◌, arith}
use Rattle.std.proofs.lemmas.Bool.{le-ltb}
use Rattle.sets.proofs.Members.{has_past}
use Rattle.sets.proofs.contains.Goals as goal

pub returns-else-craft-lt-LABELS : goal.returns-else-craft-lt-LABELS
returns-else-craft-lt-LABELS c =
    le-ltb c.args.craft 8 (omega arith) ∙ sym (has_past 8 c.args.set c.args.craft (omega arith) (omega arith))
