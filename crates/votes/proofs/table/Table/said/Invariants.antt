use Rattle.std.proofs.Common.{◌≡◌, ◌*◌, ◌≤◌}
use Rattle.agreement.specs.Flights.{sum, numbers, votes_said}
use Rattle.votes.specs.Tables.{votes_at}
use Rattle.votes.proofs.table.Table.said.Given as goal

abbrev pub invariant-loop-craft : goal.invariant-loop-craft
invariant-loop-craft l =
    (l.said ≡ sum l.craft (λ p. sum l.n (λ o. sum numbers (λ k. votes_said (votes_at l.self p o k) p)))) × (l.said ≤ l.craft * (l.n * (2 * numbers)))
