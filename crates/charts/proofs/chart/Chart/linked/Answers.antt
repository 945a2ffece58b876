use Rattle.std.proofs.Common.{◌≡◌, ℕ, get_or, ap, ◌∙◌}
use Rattle.std.proofs.lemmas.Bool.Decides.{Decides-at}
use Rattle.sets.specs.Sets.{has}
use Rattle.sets.proofs.Members.{has_decides}
use Rattle.charts.proofs.RowLaws.{linked-below, linked_both}
use Rattle.charts.proofs.chart.Chart.linked.Goals as goal

pub returns : goal.returns
returns c =
    let self = c.args.self.now in
    let a = c.args.a in
    let b = c.args.b in
    let e : c.contains.result ≡ has (get_or self.rows a 0) b = c.contains.ensures ∙ ap (λ (s : ℕ). has s b) c.row.ensures.answer in
    let d = Decides-at c.contains.result (has (get_or self.rows a 0) b) e (has_decides (get_or self.rows a 0) b) in
    record {
      answer = e;
      meaning = d;
      within = λ t. linked-below self.n self.rows self.bounded self.«mutual» a b (d.0 t);
      both = e ∙ linked_both self.rows self.«mutual» a b;
    }
