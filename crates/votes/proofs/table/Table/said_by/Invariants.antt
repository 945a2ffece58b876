use Rattle.std.proofs.Common.{◌≡◌, ◌*◌, ◌≤◌}
use Rattle.agreement.specs.Flights.{sum, numbers, votes_said}
use Rattle.votes.specs.Tables.{votes_at}
use Rattle.votes.proofs.table.Table.said_by.Given as goal

abbrev pub invariant-loop-origin : goal.invariant-loop-origin
invariant-loop-origin l =
    (l.said ≡ sum l.origin (λ o. sum numbers (λ k. votes_said (votes_at l.self l.craft o k) l.craft))) × (l.said ≤ l.origin * (2 * numbers))
