use Rattle.std.proofs.Common.{refl}
use Rattle.agreement.proofs.Possible.{possible}
use Rattle.agreement.proofs.orders_can_arrive.Goals as goal

pub returns : goal.returns
returns c = record { answer = refl; possible = possible }
