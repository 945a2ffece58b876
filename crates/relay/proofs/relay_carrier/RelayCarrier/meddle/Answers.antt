use Rattle.std.proofs.Common.{refl}
use Rattle.bases.specs.Parts.{parts}
use Rattle.relay.specs.Steps.{meddle_on}
use Rattle.relay.proofs.relay_carrier.RelayCarrier.meddle.Goals as goal

pub returns : goal.returns
returns g c =
    let d = c.args.self.now in
    let m = g.L.LinkService.meaning in
    record {
      step = λ s. meddle_on d.passed (parts m d.base) s c.args.c c.args.to c.args.frame c.meddle.result (parts m c.meddle.new.self) c.meddle.ensures;
      fixed = record { n = refl; f = refl; chart = refl };
      exact = (c.meddle.ensures, refl);
    }
