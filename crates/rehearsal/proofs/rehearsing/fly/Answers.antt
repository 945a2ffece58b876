use Rattle.std.proofs.Common.{◌≡◌, ℕ, ◌+◌, ap, ◌∙◌}
use Rattle.std.specs.Iterator.Adapters.{enumerate_source, enumerate_count}
use Rattle.rehearsal.proofs.Flying.{flying_open, flying_next, flown_all, flown_stop}
use Rattle.rehearsal.proofs.rehearsing.fly.Goals as goal

pub loop-index-init : goal.loop-index-init
loop-index-init g c =
    let o = c.open-flight.ensures in
    let source = c.enumerate-index-items.ensures.source in
    let count = c.enumerate-index-items.ensures.count in
    let gives = c.into_iter-index-iterator.ensures.into_iter_gives in
    let r : (enumerate_source c.into_iter-index-iterator.result).rest.now ≡ c.args.records.rest.now = (λ i. (gives i).iter.rest.now) ∙ (λ i. (source i).rest.now) in
    let z : enumerate_count c.into_iter-index-iterator.result ≡ 0 = (λ i. (gives i).count) ∙ count in
    flying_open _ _ _ _ _ _ _ _ _ _ _ _ o c.requires.sound c.requires.fresh r z c.in_ok-out.ensures

pub returns-in-Err : goal.returns-in-Err
returns-in-Err g c =
    let next = c.in-Some.ensures.steps in
    flown_stop _ _ _ _ _ _ g.C.LawfulCarrier.lawful _ _ _ _ _ _ _ c.loop-index.invariant _ _ _ _ _ next.0 c.due_call-call.ensures c.in-Err.is (ap (λ (k : ℕ). k + 2) next.1) c.in_ok-add_line-in-Err.ensures

pub loop-index-preserved : goal.loop-index-preserved
loop-index-preserved g c =
    let next = c.in-Some.ensures.steps in
    let step = c.in_ok-step-in-Ok.ensures in
    flying_next _ _ _ _ _ _ g.C.LawfulCarrier.lawful _ _ _ _ _ _ _ c.loop-index.invariant _ _ _ _ _ _ _ next.0 c.due_call-call.ensures c.in-Ok.is (ap (λ (k : ℕ). k + 2) next.1) next.2 step

pub returns : goal.returns
returns g c = flown_all _ _ _ _ _ _ g.C.LawfulCarrier.lawful _ _ _ _ _ _ _ c.loop-index.invariant c.in-None.ensures.steps.0
