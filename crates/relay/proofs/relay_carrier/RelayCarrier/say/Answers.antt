use Rattle.std.proofs.Common.{refl}
use Rattle.bases.specs.Parts.{parts}
use Rattle.relay.specs.Steps.{say_on}
use Rattle.relay.proofs.relay_carrier.RelayCarrier.say.Goals as goal

pub returns : goal.returns
returns g c =
    let d = c.args.self.now in
    let m = g.L.LinkService.meaning in
    record {
      step = λ s. say_on d.passed (parts m d.base) s c.args.author c.args.note c.say.result (parts m c.say.new.self) c.say.ensures;
      fixed = record { n = refl; f = refl; chart = refl };
      exact = (c.say.ensures, refl);
    }
