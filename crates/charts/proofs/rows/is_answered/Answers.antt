use Rattle.std.proofs.Common.{ℕ, length, get_or, not, ◌||◌, rules, tests, arith}
use Rattle.std.proofs.lemmas.Bool.Decides.{same_from_decides, Decides-like}
use Rattle.sets.specs.Sets.{has}
use Rattle.charts.proofs.Ranges.{all_over_Range}
use Rattle.charts.proofs.RowTests.{decides_tests}
use Rattle.charts.proofs.rows.is_answered.Goals as goal

pub returns : goal.returns
returns c =
    let rows = c.args.rows.now in
    let i = c.args.i in
    same_from_decides _ _
    (Decides-like c.all.result (λ h j l. h j (omega arith) l) (λ h j lo l. h j l)
    (all_over_Range (search rules) _ (λ (j : ℕ). not (has (get_or rows i 0) j) || has (get_or rows j 0) i) (λ k b h. search (rules, tests)) c.all.result c.all.ensures.runs))
    (decides_tests rows i (length rows))
