use Rattle.std.proofs.Common.{refl}
use Rattle.carriers.specs.Directs.{parts_of}
use Rattle.carriers.specs.Parts.{parts}
use Rattle.carriers.specs.Steps.{say_on}
use Rattle.carriers.proofs.direct_carrier.DirectCarrier.say.Goals as goal

pub returns : goal.returns
returns g c =
    let d = c.args.self.now in
    let m = g.L.LinkService.meaning in
    let done = c.say.ensures.step d.astray in
    record {
      step = λ s. say_on d.complete (parts_of m d) s c.args.author c.args.note c.say.result (parts m c.say.new.self d.astray) done;
      fixed = record { n = refl; f = refl; chart = refl };
      exact = (done, c.say.ensures.again, refl);
    }
