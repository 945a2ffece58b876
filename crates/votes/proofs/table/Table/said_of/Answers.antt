use Rattle.std.proofs.Common.{◌≡◌, ℕ, ◌+◌, sym, ap, ◌∙◌, arith}
use Rattle.agreement.specs.Flights.{sum, votes_said}
use Rattle.agreement.proofs.Sums.{sum_none, sum_next}
use Rattle.votes.specs.declared.record.Votes.{Votes}
use Rattle.votes.specs.Records.{tally}
use Rattle.votes.specs.Tables.{votes_at}
use Rattle.votes.proofs.table.Table.said_of.Goals as goal

pub loop-number-init : goal.loop-number-init
loop-number-init c = (sym (sum_none (λ k. votes_said (votes_at c.args.self.now c.args.craft c.args.origin k) c.args.craft)), omega arith)

pub loop-number-preserved : goal.loop-number-preserved
loop-number-preserved c =
    let F : ℕ → ℕ = λ k. votes_said (votes_at c.args.self.now c.args.craft c.args.origin k) c.args.craft in
    let one : c.said-said.result ≡ F c.loop-number.number = c.said-said.ensures.answer ∙ ap (λ (v : Votes). votes_said (tally v) c.args.craft) c.votes.ensures in (
      ap (λ (i : ℕ). i + c.said-said.result) c.loop-number.invariant.0 ∙ ap (λ (i : ℕ). sum c.loop-number.number F + i) one ∙ sym (sum_next c.loop-number.number F),
      omega (arith, c.loop-number.invariant.1, c.said-said.ensures.few),
    )
