use Rattle.std.proofs.Common.{ℕ, ◌+◌, sym, ap, ◌∙◌, arith}
use Rattle.agreement.specs.Flights.{sum, numbers, votes_said}
use Rattle.agreement.proofs.Sums.{sum_none, sum_next}
use Rattle.votes.specs.Tables.{votes_at}
use Rattle.votes.proofs.table.Table.said.Goals as goal

pub loop-craft-init : goal.loop-craft-init
loop-craft-init c = (sym (sum_none (λ p. sum c.args.n (λ o. sum numbers (λ k. votes_said (votes_at c.args.self.now p o k) p)))), omega arith)

pub loop-craft-preserved : goal.loop-craft-preserved
loop-craft-preserved c =
    let F : ℕ → ℕ = λ p. sum c.args.n (λ o. sum numbers (λ k. votes_said (votes_at c.args.self.now p o k) p)) in (
      ap (λ (i : ℕ). i + c.said_by-said.result) c.loop-craft.invariant.0 ∙ ap (λ (i : ℕ). sum c.loop-craft.craft F + i) c.said_by-said.ensures.answer
          ∙ sym (sum_next c.loop-craft.craft F),
      omega (arith, c.loop-craft.invariant.1, c.said_by-said.ensures.few),
    )
