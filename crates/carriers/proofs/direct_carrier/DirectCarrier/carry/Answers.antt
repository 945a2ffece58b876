use Rattle.std.proofs.Common.{◌<◌, sym, refl, arith}
use Rattle.std.proofs.lemmas.Bool.{both_ways}
use Rattle.sets.specs.Sets.{labels}
use Rattle.shelves.specs.Shelves.{fewest, heard_on}
use Rattle.carriers.specs.Directs.{means, parts_of}
use Rattle.carriers.specs.Accepted.{judged_carry, may_carry}
use Rattle.shelves.proofs.Hearing.{held_for_sure}
use Rattle.carriers.specs.Straight.{is_straight_lem}
use Rattle.carriers.specs.Steps.{drop_step, hear_step, told_at, hears_crooked, hears_old, hears_new}
use Rattle.carriers.proofs.direct_carrier.DirectCarrier.carry.Goals as goal

pub returns-then-not-is_straight : goal.returns-then-not-is_straight
returns-then-not-is_straight g c =
    let d = c.args.self.now in
    let m = g.L.LinkService.meaning in
    let k = c.args.k in
    let e = c.in_ok-entry.entry in
    let take = c.in_ok-entry.ensures in
    let ok = judged_carry k c.waiting-waiting.ensures c.spare-spare.ensures c.in_ok-judge_carry.ensures in
    let crooked = sym c.if-not-is_straight.ensures in
    let tells = hears_crooked d.complete.chart.n (heard_on d.store.table.at) e crooked in
    record {
      step = λ s. let r = drop_step d.complete (parts_of m d) s (m c.take.new.self) k e take (λ t. absurd (both_ways _ crooked t)) in ((ok, r.0), r.1);
      answer = told_at d.complete.chart.n (heard_on d.store.table.at) (m d.store.links) (m c.take.new.self) k e _ take tells;
      labels = tt;
      fixed = record { n = refl; f = refl; chart = refl };
      exact = (record { accepted = ok; entry = e; taken = take; answer = sym tells; kept = refl; astray = refl }, refl);
    }

pub returns-then-covers : goal.returns-then-covers
returns-then-covers g c =
    let d = c.args.self.now in
    let m = g.L.LinkService.meaning in
    let k = c.args.k in
    let e = c.in_ok-entry.entry in
    let take = c.in_ok-entry.ensures in
    let ok = judged_carry k c.waiting-waiting.ensures c.spare-spare.ensures c.in_ok-judge_carry.ensures in
    let old = sym c.if-covers.ensures in
    let tells = hears_old d.complete.chart.n (heard_on d.store.table.at) e old in
    record {
      step = λ s. let r = drop_step d.complete (parts_of m d) s (m c.take.new.self) k e take (λ _. old) in ((ok, r.0), r.1);
      answer = told_at d.complete.chart.n (heard_on d.store.table.at) (m d.store.links) (m c.take.new.self) k e _ take tells;
      labels = tt;
      fixed = record { n = refl; f = refl; chart = refl };
      exact = (record { accepted = ok; entry = e; taken = take; answer = sym tells; kept = refl; astray = refl }, refl);
    }

pub returns : goal.returns
returns g c =
    let d = c.args.self.now in
    let m = g.L.LinkService.meaning in
    let k = c.args.k in
    let e = c.in_ok-entry.entry in
    let take = c.in_ok-entry.ensures in
    let ok = judged_carry k c.waiting-waiting.ensures c.spare-spare.ensures c.in_ok-judge_carry.ensures in
    let may = may_carry (means m d).waiting (means m d).spare k ok in
    let str = sym c.if-not-is_straight.ensures in
    let st = is_straight_lem d.complete.chart.n e str in
    let new = sym c.if-covers.ensures in
    let tells = hears_new d.complete.chart.n (heard_on d.store.table.at) e str new in
    let small : e.to < labels = omega (arith, st.to, d.complete.chart.few) in
    let free : 0 < fewest d.store.table.at = omega (arith, may.room) in
    let held = held_for_sure d.store.table.at e.to e.from e.frame.note 0 small free c.hold.result c.hold.new.self.at c.hold.ensures in
    record {
      step = λ s. let r = hear_step d.complete (parts_of m d) s (m c.take.new.self) k e take c.hold.new.self.at str new held in ((ok, r.0), r.1);
      answer = told_at d.complete.chart.n (heard_on d.store.table.at) (m d.store.links) (m c.take.new.self) k e _ take tells;
      labels = (st.to, st.from, st.sound);
      fixed = record { n = refl; f = refl; chart = refl };
      exact = (record { accepted = ok; entry = e; taken = take; answer = sym tells; kept = held; astray = refl }, refl);
    }
