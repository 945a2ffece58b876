use Rattle.std.proofs.Common.{ℕ, ◌<◌, Some, Result, sym, refl, ap, ◌∙◌, subst, inr, arith}
use Rattle.std.proofs.lemmas.Result.{err_from_is_err_and}
use Rattle.std.proofs.lemmas.Bool.{both_ways}
use Rattle.refusals.specs.declared.Fault.{Fault}
use Rattle.refusals.specs.Refusals.{refusal, told}
use Rattle.sets.specs.Sets.{labels}
use Rattle.links.specs.Calls.{Appended, put_causes}
use Rattle.links.specs.Meanings as links
use Rattle.shelves.specs.Shelves.{fewest}
use Rattle.shelves.proofs.Hearing.{held_for_sure}
use Rattle.carriers.specs.Parts.{parts, spare_of, own_frame, SaysOn, SaidBefore}
use Rattle.carriers.specs.Accepted.{judged_say, may_say}
use Rattle.carriers.proofs.store.Store.say.Goals as goal

pub returns-in_err-put : goal.returns-in_err-put
returns-in_err-put g c =
    let m = g.L.LinkService.meaning in
    let b = c.args.self.now in
    let h = c.args.chart.now in
    let a = c.args.author in
    let w = m b.links in
    let ok = judged_say h.n a c.args.note c.spare-spare.ensures c.in_ok-judge_say.ensures in
    let refused = c.in_err-put.ensures in
    let e = err_from_is_err_and c.from_residual-in_err-put.result c.from_residual-in_err-put.ensures.1 in
    let why = ap (λ (s : ℕ). refusal (put_causes w.rows w.spare a s)) (sym c.row-neighbours.ensures.answer) ∙ refused.0 ∙ ap (λ (f : Fault). Some (told f)) (sym e.2) in
    record {
      step = λ k. subst (λ (r : Result Unit Fault). SaysOn h (parts m b k) a c.args.note r (record { links = m c.put.new.self; shelves = b.table.at; astray = k })) (sym e.1)
          (ap (λ (v : links.Meaning). record { links = v; shelves = b.table.at; astray = k }) refused.1, inr (ok, why));
      again = subst (λ (r : Result Unit Fault). SaidBefore b a c.args.note r (record { links = c.put.new.self; table = b.table })) (sym e.1) tt;
    }

pub returns : goal.returns
returns g c =
    let m = g.L.LinkService.meaning in
    let b = c.args.self.now in
    let h = c.args.chart.now in
    let a = c.args.author in
    let x = c.args.note in
    let ok = judged_say h.n a x c.spare-spare.ensures c.in_ok-judge_say.ensures in
    let may = may_say h.n (spare_of (parts m b 0)) a x ok in
    let new = sym c.if-covers.ensures in
    let put = subst (λ (i : ℕ). Appended (m b.links) a i (own_frame a x) (m c.put.new.self)) c.row-neighbours.ensures.answer c.in_ok-put.ensures in
    let small : a < labels = omega (arith, may.label, h.few) in
    let free : 0 < fewest b.table.at = omega (arith, may.room) in
    let held = held_for_sure b.table.at a a x 0 small free c.hold.result c.hold.new.self.at c.hold.ensures in
    record {
      step = λ k. (ok, (λ e. absurd (both_ways _ new e)), λ e. record { put = put; held = held; astray = refl });
      again = λ e. absurd (both_ways _ new e);
    }
