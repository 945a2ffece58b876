use Rattle.std.proofs.Common.{◌≡◌, Bool, true, not, is_some, Option, ap, ◌∙◌}
use Rattle.refusals.specs.Refusals.{Told}
use Rattle.charts.proofs.WorkedSizes.{worked_sizes_lem, seven_accepted}
use Rattle.charts.proofs.examples.worked_sizes.Goals as goal

pub returns : goal.returns
returns c =
    let e : c.is_chart-seven.result ≡ true = c.is_chart-seven.ensures ∙ ap (λ (o : Option Told). not (is_some o)) seven_accepted in
    let Both : Type 0 = Bool × Bool in
    let P : Bool → Both = λ b. (b, c.is_chart-six.result) in
    let Q : Bool → Both = λ b. (true, b) in
    record { answer = ap P e ∙ ap Q c.is_chart-six.ensures; sizes = worked_sizes_lem }
