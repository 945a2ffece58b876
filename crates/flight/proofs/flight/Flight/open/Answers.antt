use Rattle.std.proofs.Common.{refl, rules, [], ◌∷◌}
use Rattle.agreement.specs.Lives.{begun}
use Rattle.agreement.specs.Runs.{Empty}
use Rattle.flight.specs.Ledgers.{ledger}
use Rattle.flight.proofs.flight.Flight.open.Goals as goal

pub returns : goal.returns
returns g c =
    let empty : Empty (ledger c.new.result (0 ∷ 0 ∷ 0 ∷ 0 ∷ 0 ∷ 0 ∷ 0 ∷ 0 ∷ [])) = search rules in
    record {
      carrier = refl;
      empty = empty;
      begins = λ sound fresh. begun (record { start = record { fresh = fresh; empty = empty }; kept = sound });
    }
