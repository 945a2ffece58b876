use Rattle.std.proofs.Common.{ℕ, sym, ap, ◌∙◌, arith}
use Rattle.sets.specs.Sets.{count}
use Rattle.sets.proofs.Counts.{others-one_of}
use Rattle.sets.proofs.count_others.Goals as goal

pub returns : goal.returns
returns c = ap (λ (x : ℕ). count x) c.without.ensures ∙ sym (others-one_of 8 c.args.craft c.args.set (omega arith))
