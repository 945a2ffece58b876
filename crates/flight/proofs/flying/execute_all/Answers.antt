use Rattle.std.proofs.Common.{◌≡◌, ◌<◌, ℕ, length, refl, subst, take, ◌∙◌, arith}
use Rattle.std.proofs.lemmas.List.{drop-set-lt}
use Rattle.flight.specs.Lists.{ExecutedAll}
use Rattle.flight.proofs.Executing.{all_none, all_on}
use Rattle.flight.proofs.flying.execute_all.Goals as goal

pub loop-i-init : goal.loop-i-init
loop-i-init g c = (all_none _ _ _ _ _ _ _ g.C.LawfulCarrier.lawful c.args.flight.now c.args.buffer.now, refl)

pub loop-i-preserved : goal.loop-i-preserved
loop-i-preserved g c =
    let least = c.min-count.ensures in
    let i = c.loop-i.i in
    let d : i < length c.args.commands.now = omega arith in
    let a : i < length c.loop-i.answers = omega arith in (
      all_on _ _ _ _ _ _ _ g.C.LawfulCarrier.lawful c.args.commands.now c.loop-i.answers i c.execute.result _ c.args.flight.now c.loop-i.flight _ _ _ _ d a
          c.loop-i.invariant.0 c.execute.ensures,
      drop-set-lt c.min-count.result c.loop-i.answers i c.execute.result c.loop-i-test.true ∙ c.loop-i.invariant.1,
    )

pub returns-clause-executed : goal.returns-clause-executed
returns-clause-executed g c =
    let end : c.loop-i.i ≡ c.min-count.result = omega arith in
    subst (λ (n : ℕ). ExecutedAll g.C.LawfulCarrier.meaning g.C.LawfulCarrier.sound g.C.Carrier.G g.M.Matter.kinds g.C.Carrier.says g.C.Carrier.carries g.C.Carrier.meddles
    c.args.flight.now c.args.buffer.now (take n c.args.commands.now) (take n c.loop-i.answers) c.loop-i.flight c.loop-i.buffer) end c.loop-i.invariant.0
