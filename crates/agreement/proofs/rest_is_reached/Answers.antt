use Rattle.std.proofs.Common.{refl}
use Rattle.agreement.proofs.RestReached.{rest_reached}
use Rattle.agreement.proofs.rest_is_reached.Goals as goal

pub returns : goal.returns
returns c = record { answer = refl; rest = rest_reached }
