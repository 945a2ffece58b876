use Rattle.agreement.proofs.Agrees.{agreement_over_lem}
use Rattle.agreement.proofs.agreement_over.Goals as goal

pub returns : goal.returns
returns g c = record { answer = c.two_craft_agree.ensures.answer; agreement = agreement_over_lem g.C.LawfulCarrier.lawful }
