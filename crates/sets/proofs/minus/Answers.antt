use Rattle.std.proofs.Common.{arith}
use Rattle.sets.proofs.Bits.{less_complement}
use Rattle.sets.proofs.minus.Goals as goal

pub returns : goal.returns
returns c = less_complement 8 c.args.a c.args.b (omega arith) (omega arith)
