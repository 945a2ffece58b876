use Rattle.std.proofs.Common.{◌≡◌, ℕ, ◌-◌, ap, ◌∙◌, arith}
use lib.Count.{ones}
use Rattle.sets.specs.Sets.{shared}
use Rattle.sets.proofs.LowestMember.{cleared_less, count_cleared}
use Rattle.sets.proofs.rest.Goals as goal

pub returns : goal.returns
returns c =
    let m : ℕ = c.args.set in
    let e : shared m c.saturating_sub.result ≡ shared m (m - 1) = ap (λ (x : ℕ). shared m x) c.saturating_sub.ensures in
    record {
      answer = e;
      members = λ i p. e ∙ cleared_less i m p;
      fewer = λ p. omega (arith, ap ones e, count_cleared m p);
    }
