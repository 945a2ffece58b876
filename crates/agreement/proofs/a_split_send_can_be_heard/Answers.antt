use Rattle.std.proofs.Common.{refl}
use Rattle.agreement.proofs.SplitSends.{split_heard}
use Rattle.agreement.proofs.a_split_send_can_be_heard.Goals as goal

pub returns : goal.returns
returns c = record { answer = refl; split = split_heard }
