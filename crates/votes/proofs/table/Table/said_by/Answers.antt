use Rattle.std.proofs.Common.{◌≡◌, ℕ, ◌+◌, sym, ap, ◌∙◌, arith}
use Rattle.agreement.specs.Flights.{sum, numbers, votes_said}
use Rattle.agreement.proofs.Sums.{sum_none, sum_next}
use Rattle.votes.specs.Tables.{votes_at}
use Rattle.votes.proofs.table.Table.said_by.Goals as goal

pub loop-origin-init : goal.loop-origin-init
loop-origin-init c = (sym (sum_none (λ o. sum numbers (λ k. votes_said (votes_at c.args.self.now c.args.craft o k) c.args.craft))), omega arith)

pub loop-origin-preserved : goal.loop-origin-preserved
loop-origin-preserved c =
    let F : ℕ → ℕ = λ o. sum numbers (λ k. votes_said (votes_at c.args.self.now c.args.craft o k) c.args.craft) in
    let one : c.from-said.result ≡ F c.loop-origin.origin = c.from-said.ensures ∙ c.said_of.ensures.answer in (
      ap (λ (i : ℕ). i + c.from-said.result) c.loop-origin.invariant.0 ∙ ap (λ (i : ℕ). sum c.loop-origin.origin F + i) one ∙ sym (sum_next c.loop-origin.origin F),
      omega (arith, c.loop-origin.invariant.1, c.said_of.ensures.few, c.from-said.ensures),
    )
