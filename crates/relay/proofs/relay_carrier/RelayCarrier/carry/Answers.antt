use Rattle.std.proofs.Common.{◌<◌, Some, None, Err, Option, Result, sym, refl, ap, ◌∙◌, subst, inr, arith}
use Rattle.std.proofs.lemmas.Result.{err_from_is_err_and}
use Rattle.refusals.specs.declared.Fault.{Fault}
use Rattle.shelves.specs.Shelves.{fewest, rows_at}
use Rattle.pathsets.specs.Outcomes.{is_heard}
use Rattle.pathsets.proofs.ShelfSteps.{heard-fits}
use Rattle.relaying.specs.States.{listener}
use Rattle.carriers.specs.declared.heard.Heard.{Heard}
use Rattle.carriers.specs.Calls.{Answers, Labelled}
use Rattle.carriers.specs.Parts.{Parts}
use Rattle.bases.specs.Parts.{parts}
use Rattle.carriers.specs.Accepted.{judged_carry, may_carry}
use Rattle.carriers.specs.Puts.{never}
use Rattle.relay.specs.declared.kinds.Relay.{Relay}
use Rattle.relay.specs.Passing.{PassesOn}
use Rattle.relay.specs.Relays.{means, setting, heard_by, telling_of, CarriedOn, CarriesRelay}
use Rattle.relay.proofs.Carrying.{out_is, carried_on, stopped, put_taken, told_is, heard-told, quiet_told}
use Rattle.relay.specs.Steps.{fits_on, carry_quiet, carry_hears}
use Rattle.relay.proofs.relay_carrier.RelayCarrier.carry.Goals as goal

pub returns-in_err-pass_on : goal.returns-in_err-pass_on
returns-in_err-pass_on g c =
    let m = g.L.LinkService.meaning in
    let d = c.args.self.now in
    let p = parts m d.base in
    let k = c.args.k in
    let e = c.in_ok-entry.entry in
    let o = c.take_in_at-out.result in
    let w = m c.take.new.self in
    let at = c.take_in_at-out.new.table.at in
    let take = c.in_ok-entry.ensures in
    let ok = judged_carry k c.waiting-waiting.ensures c.spare-spare.ensures c.in_ok-judge_carry.ensures in
    let may = may_carry (means m d).waiting (means m d).spare k ok in
    let free : 0 < fewest d.base.store.table.at = omega (arith, may.room) in
    let is = c.row.ensures.answer in
    let takes = c.take_in_at-out.ensures in
    let x = err_from_is_err_and c.from_residual-in_err-pass_on.result c.from_residual-in_err-pass_on.ensures.1 in
    let w' = m c.pass_on.new.links in
    let p' : Parts = record { links = w'; shelves = at; astray = d.base.astray } in
    let d' : Relay g.row.L.Denot = record { base = record { store = record { links = c.pass_on.new.links; table = c.take_in_at-out.new.table }; astray = d.base.astray }; passed = d.passed } in
    let refused = subst (λ (f : Fault). PassesOn w e o (Err f) w') (sym x.2) c.in_err-pass_on.ensures in
    let error = λ (P : Result (Option Heard) Fault → Type 0) (h : P (Err x.0)). subst P (sym x.1) h in
    record {
      step = λ s. never _ _ (put_taken d.passed p k e w at o c.row.result _ is free take takes s.rows may.room refused.0) refused.2;
      answer = error (Answers (telling_of m d k)) tt;
      labels = error (Labelled d.passed.chart.n) tt;
      fixed = record { n = refl; f = refl; chart = refl };
      exact = error (λ r. CarriesRelay m d k r d') (inr (stopped d.passed p k e w at o c.row.result _ is free take takes w' ok x.0 refused), refl);
    }

pub returns-then-not-heard : goal.returns-then-not-heard
returns-then-not-heard g c =
    let m = g.L.LinkService.meaning in
    let d = c.args.self.now in
    let p = parts m d.base in
    let k = c.args.k in
    let e = c.in_ok-entry.entry in
    let o = c.take_in_at-out.result in
    let w = m c.take.new.self in
    let at = c.take_in_at-out.new.table.at in
    let w' = m c.pass_on.new.links in
    let p' : Parts = record { links = w'; shelves = at; astray = d.base.astray } in
    let take = c.in_ok-entry.ensures in
    let ok = judged_carry k c.waiting-waiting.ensures c.spare-spare.ensures c.in_ok-judge_carry.ensures in
    let may = may_carry (means m d).waiting (means m d).spare k ok in
    let free : 0 < fewest d.base.store.table.at = omega (arith, may.room) in
    let is = c.row.ensures.answer in
    let takes = c.take_in_at-out.ensures in
    let on = c.in_ok-pass_on.ensures in
    let quiet = ap is_heard (sym (out_is d.passed p k e w at o c.row.result _ is free take takes)) ∙ sym c.heard.ensures ∙ c.if-not-heard.true in
    let answer = sym (quiet_told d.passed p e quiet) in
    let co : CarriedOn d.passed p k e None p' = carried_on d.passed p k e w at o c.row.result _ is free take takes w' ok tt on None answer in
    record {
      step = λ s. ((ok, carry_quiet d.passed p s k e None p' co quiet), fits_on d.passed p s k e None p' co);
      answer = told_is d.passed p k e w None take answer;
      labels = tt;
      fixed = record { n = refl; f = refl; chart = refl };
      exact = ((e, co), refl);
    }

pub returns : goal.returns
returns g c =
    let m = g.L.LinkService.meaning in
    let d = c.args.self.now in
    let p = parts m d.base in
    let k = c.args.k in
    let e = c.in_ok-entry.entry in
    let o = c.take_in_at-out.result in
    let w = m c.take.new.self in
    let at = c.take_in_at-out.new.table.at in
    let w' = m c.pass_on.new.links in
    let p' : Parts = record { links = w'; shelves = at; astray = d.base.astray } in
    let take = c.in_ok-entry.ensures in
    let ok = judged_carry k c.waiting-waiting.ensures c.spare-spare.ensures c.in_ok-judge_carry.ensures in
    let may = may_carry (means m d).waiting (means m d).spare k ok in
    let free : 0 < fewest d.base.store.table.at = omega (arith, may.room) in
    let is = c.row.ensures.answer in
    let takes = c.take_in_at-out.ensures in
    let on = c.in_ok-pass_on.ensures in
    let hears = ap is_heard (sym (out_is d.passed p k e w at o c.row.result _ is free take takes)) ∙ sym c.heard.ensures ∙ c.if-not-heard.false in
    let answer = sym (heard-told d.passed p e hears) in
    let co : CarriedOn d.passed p k e (Some (heard_by e)) p' = carried_on d.passed p k e w at o c.row.result _ is free take takes w' ok tt on (Some (heard_by e)) answer in
    let fit = heard-fits (listener (setting d.passed) e.to) e.from e.frame (rows_at d.base.store.table.at e.to) hears in
    record {
      step = λ s. ((ok, carry_hears d.passed p s k e (Some (heard_by e)) p' co hears), fits_on d.passed p s k e (Some (heard_by e)) p' co);
      answer = told_is d.passed p k e w (Some (heard_by e)) take answer;
      labels = (fit.craft, fit.author, fit.sound);
      fixed = record { n = refl; f = refl; chart = refl };
      exact = ((e, co), refl);
    }
