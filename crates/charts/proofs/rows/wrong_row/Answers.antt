use Rattle.std.proofs.Common.{◌≡◌, length, true, false, rules, tests}
use Rattle.std.proofs.lemmas.Iterator.{first_from_Range}
use Rattle.charts.specs.Rows.{right}
use Rattle.charts.proofs.CauseLaws.{rows_tested}
use Rattle.charts.proofs.rows.wrong_row.Goals as goal

pub returns : goal.returns
returns c =
    let rows = c.args.rows.now in
    rows_tested rows c.find.result
    (first_from_Range _ _ _ c.find.result (λ i. right (length rows) rows i ≡ false) (λ i. right (length rows) rows i ≡ true) c.find.ensures.ran
    (λ x q k. search (rules, tests)) (λ x q k. search (rules, tests)))
