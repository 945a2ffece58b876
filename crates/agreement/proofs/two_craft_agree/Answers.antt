use Rattle.std.proofs.Common.{refl}
use Rattle.agreement.proofs.Agrees.{agreement}
use Rattle.agreement.proofs.two_craft_agree.Goals as goal

pub returns : goal.returns
returns c = record { answer = refl; agreement = agreement }
