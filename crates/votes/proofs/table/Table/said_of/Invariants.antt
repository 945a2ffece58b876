use Rattle.std.proofs.Common.{◌≡◌, ◌*◌, ◌≤◌}
use Rattle.agreement.specs.Flights.{sum, votes_said}
use Rattle.votes.specs.Tables.{votes_at}
use Rattle.votes.proofs.table.Table.said_of.Given as goal

abbrev pub invariant-loop-number : goal.invariant-loop-number
invariant-loop-number l = (l.said ≡ sum l.number (λ k. votes_said (votes_at l.self l.craft l.origin k) l.craft)) × (l.said ≤ 2 * l.number)
