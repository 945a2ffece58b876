use Rattle.std.proofs.Common.{refl}
use Rattle.carriers.specs.Directs.{parts_of}
use Rattle.carriers.specs.Parts.{parts}
use Rattle.carriers.specs.Steps.{meddle_on}
use Rattle.carriers.proofs.direct_carrier.DirectCarrier.meddle.Goals as goal

pub returns : goal.returns
returns g c =
    let d = c.args.self.now in
    let m = g.L.LinkService.meaning in
    let done = c.meddle.ensures in
    record {
      step = λ s. meddle_on d.complete (parts_of m d) s c.args.c c.args.to c.args.frame c.meddle.result (parts m c.meddle.new.self c.meddle.new.astray) done;
      fixed = record { n = refl; f = refl; chart = refl };
      exact = (done, refl);
    }
