use Rattle.std.proofs.Common.{◌≡◌, ℕ, [], ◌∷◌, length, sym, ap, ◌∙◌, rules, arith}
use Rattle.sets.specs.Sets.{members_of}
use Rattle.sets.proofs.FirstMember.{members_of-first, members_of-empty}
use Rattle.sets.proofs.iter.AscendingIterator.next.Goals as goal

pub returns-in_err-first-clause-steps : goal.returns-in_err-first-clause-steps
returns-in_err-first-clause-steps c =
    let e : members_of c.args.self.now.left ≡ [] = ap members_of c.in_err-first.ensures ∙ members_of-empty in
    search (rules, e)

pub returns-clause-steps : goal.returns-clause-steps
returns-clause-steps c =
    members_of-first c.args.self.now.left c.in_ok-first.first (omega arith) c.in_ok-first.ensures.1
    ∙ ap (λ (r : ℕ). c.in_ok-first.first ∷ members_of r) (sym (c.rest-self.ensures.members c.in_ok-first.first c.in_ok-first.ensures.1))

pub returns-clause-goes : goal.returns-clause-goes
returns-clause-goes c =
    let e = returns-clause-steps c in
    let n = ap length e in
    record { on = λ _. (tt, tt, omega (arith, n)); keeps = tt; rests = λ _. tt }
