use Rattle.std.proofs.Common.{◌≡◌, ℕ, ◌-◌, ap, sym, ◌∙◌, refl, fold, arith, rules, tests}
use Rattle.std.proofs.lemmas.Iterator.{YieldsList-from_range}
use Rattle.std.proofs.lemmas.Iterator.Consumers.{fold_from_yields_List}
use Rattle.std.specs.List.{range_with_len}
use Rattle.sets.specs.Sets.{bit, union, shared, less, one_of, labels}
use Rattle.cuts.specs.Reach.{around, rounds, reached}
use Rattle.cuts.proofs.ReachLaws.{rounds_none, reached_by_walks_lem}
use Rattle.cuts.proofs.FoldLaws.{rounds_fold, start_alone}
use Rattle.cuts.proofs.reach.reached_by_walks.Goals as goal

answer : goal.returns-clause-answer
unfolding reached
answer c =
    let n = c.args.chart.now.n in
    let rows = c.args.chart.now.rows in
    let avoid = c.args.avoid in
    let from = c.args.from in
    let alone : shared c.single.result c.all_below.result ≡ one_of n from =
    ap (λ (x : ℕ). shared x c.all_below.result) c.single.ensures ∙ ap (λ (x : ℕ). shared (one_of labels from) x) c.all_below.ensures
    ∙ start_alone n from c.args.chart.now.few.1 in
    let start : c.minus-start.result ≡ rounds n rows avoid from 0 =
    c.minus-start.ensures ∙ ap (λ (x : ℕ). less x avoid) alone ∙ sym (rounds_none n rows avoid from) in
    fold_from_yields_List _ (λ s (i : ℕ). less (union s (around rows s n)) avoid) c.minus-start.result c.fold.result c.fold.ensures.ran
    (YieldsList-from_range 0 (n - 1) (n - 1) refl (omega arith)) (λ s i b q h. search (rules, tests))
    ∙ ap (λ (x : ℕ). fold (λ s (i : ℕ). less (union s (around rows s n)) avoid) x (range_with_len 0 (n - 1))) start
    ∙ rounds_fold n rows avoid from (n - 1) 0 0 ∙ ap (rounds n rows avoid from) (omega arith)

pub returns-clause-answer : goal.returns-clause-answer
returns-clause-answer c = answer c

pub returns-clause-members : goal.returns-clause-members
returns-clause-members c = λ v.
    let w = reached_by_walks_lem c.args.chart.now.n c.args.chart.now.rows c.args.avoid c.args.from v c.args.chart.now.bounded in
    (λ h. w.0 (ap (λ (x : ℕ). bit x v) (sym (answer c)) ∙ h), λ h. ap (λ (x : ℕ). bit x v) (answer c) ∙ w.1 h)

pub returns-clause-law : goal.returns-clause-law
returns-clause-law c = reached_by_walks_lem
