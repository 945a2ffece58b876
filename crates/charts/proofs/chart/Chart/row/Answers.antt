use Rattle.std.proofs.Common.{◌≡◌, get_or, ◌∙◌, rules}
use Rattle.charts.proofs.RowLaws.{past_empty}
use Rattle.charts.proofs.chart.Chart.row.Goals as goal

pub returns-clause-past : goal.returns-clause-past
returns-clause-past c h =
    let self = c.args.self.now in
    let answer : c.unwrap_or.result ≡ get_or self.rows c.args.craft 0 = search rules in
    answer ∙ past_empty self.n self.rows self.bounded self.«mutual» c.args.craft h
