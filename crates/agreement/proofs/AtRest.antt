-- Part (b): when nothing waits, all have the same deliveries, and every order of a craft that is not astray. Assumes nothing.
--   reaches              what a said is its first vote at q
--   all_count            what all have said all count
--   all_delivered        what all have readied all deliver
--   delivered_ready      what one delivered all have readied
--   all_echo             what a craft that is not astray ordered all echo
--   echoed_ready         what all have echoed all ready
--   together_delivered, order_delivered
--                        so all deliver what one delivered, and every such order
--   at_rest              part (b)
use Rattle.std.proofs.Common.{◌≡◌, ℕ, ◌+◌, ◌<◌, ◌≤◌, true, not, ◌&&◌, List, Some, Option, ap, ◌∙◌, subst, arith}
use Rattle.std.proofs.lemmas.Bool.{and_parts, not-true}
use Rattle.sets.specs.Sets.{has}
use Rattle.sets.proofs.Members.{lacks_bit}
use Rattle.sets.proofs.Passing.{count-outside, count-passing-outside, count-passing_mono}
use Rattle.frames.specs.declared.notes.Step.{Step}
use Rattle.frames.specs.declared.notes.Step.TheVariants.{Send, Echo, Ready}
use Rattle.frames.specs.Notes.{note}
use Rattle.agreement.specs.Meanings.{Meaning, Honest, Lawful}
use Rattle.agreement.specs.Votes.{Tally, is, backers}
use Rattle.agreement.specs.Flights.{State, Event}
use Rattle.agreement.specs.Agreement.{AtRest}
use Rattle.agreement.proofs.FirstVotes.{is_true, is_some, same_some, some_present}
use Rattle.agreement.proofs.HeardVotes.{Matches}
use Rattle.agreement.proofs.KeptRuns.{Kept}
use Rattle.agreement.proofs.OneContent.{entry, one_echo, echo_behind, one_ready, ready_behind, not_astray_honest}

module _ (es : List Event) (s : State) (h : Kept es s) (law : Lawful s.carrier) (rest : s.carrier.waiting ≡ 0) (o k : ℕ) where
  abbrev m : Meaning
  m = s.carrier

  abbrev tally : ℕ → Tally
  tally p = s.ledger.votes p o k

  outside_honest : (i : ℕ) → i < m.n → not (has m.astray i) ≡ true → Honest m i
  outside_honest i l e = record { below = l; loyal = lacks_bit m.astray i (not-true (has m.astray i) e) }

  -- what a said is its first vote at q
  reaches : (x : Step) (a q : ℕ) (F G : ℕ → Option ℕ) → Matches m x a o k F → Matches m x q o k G → (w : ℕ) → Honest m a → Honest m q
      → m.heard a a (note x o k w) ≡ true → G a ≡ Some w
  reaches x a q F G at_a at-q w ha hq e =
      let r = some_present (G a) (at-q.kept a w (law.nothing_lost rest q a (note x o k w) hq ha e)) in
      let back = law.nothing_invented q a (note x o k r.0) hq ha (at-q.heard a r.0 r.1) in
      r.1 ∙ ap (λ (i : ℕ). Some i) (same_some (at_a.own r.0 back) (at_a.own w e))

  -- what all said all count
  all_count : (x : Step) (F : ℕ → ℕ → Option ℕ) → ((p : ℕ) → Matches m x p o k (F p)) → (w : ℕ) → ((r : ℕ) → Honest m r → m.heard r r (note x o k w) ≡ true)
      → (q : ℕ) → Honest m q → m.n ≤ backers m.n (F q) w + m.f
  unfolding backers
  all_count x F links w all q hq =
      omega (
        arith,
        h.votes.few,
        count-outside m.n m.astray,
        count-passing_mono m.n (λ a. not (has m.astray a)) (λ a. is (F q a) w) (λ i l e.
            let hi = outside_honest i l e in
            is_some (F q i) w (reaches x i q (F i) (F q) (links i) (links q) w hi hq (all i hi))),
      )

  abbrev AllReady : ℕ → Type 0
  AllReady w = (r : ℕ) → Honest m r → m.heard r r (note Ready o k w) ≡ true

  all_delivered : (w : ℕ) → AllReady w → (q : ℕ) → Honest m q → (tally q).delivered ≡ Some w
  all_delivered w all q hq =
      let n = all_count Ready (λ p. (tally p).ready) (λ p. (entry es s h law o k p).ready) w all q hq in
      let r = some_present (tally q).delivered ((entry es s h law o k q).settled.by_enough w (omega (arith, n, law.limits.few))) in
      let b = ready_behind es s h law o k q r.0 hq r.1 in
      r.1 ∙ ap (λ (i : ℕ). Some i) (one_ready es s h law o k b.0 q r.0 w b.1 hq b.2 (all q hq))

  -- one delivery, and all are ready
  delivered_ready : (p w : ℕ) → Honest m p → (tally p).delivered ≡ Some w → AllReady w
  unfolding backers
  delivered_ready p w hp e r hr =
      let few = count-passing_mono m.n (λ i. is ((tally p).ready i) w && not (has m.astray i)) (λ i. is ((tally r).ready i) w) (λ i l x.
      let y = and_parts (is ((tally p).ready i) w) (not (has m.astray i)) x in
      let hi = outside_honest i l y.1 in
      let said = law.nothing_invented p i (note Ready o k w) hp hi ((entry es s h law o k p).ready.heard i w (is_true ((tally p).ready i) w y.0)) in
      is_some ((tally r).ready i) w (reaches Ready i r (tally i).ready (tally r).ready (entry es s h law o k i).ready (entry es s h law o k r).ready w hi hr said)) in
      let many = count-passing-outside m.n m.astray (λ i. is ((tally p).ready i) w) in
      let own = some_present ((tally r).ready r) ((entry es s h law o k r).settled.by_readies w (omega (arith, few, many, (entry es s h law o k p).counted w e, h.votes.few))) in
      let said = (entry es s h law o k r).ready.heard r own.0 own.1 in
      let b = ready_behind es s h law o k p w hp e in
      subst (λ (v : ℕ). m.heard r r (note Ready o k v) ≡ true) (one_ready es s h law o k r b.0 own.0 w hr b.1 said b.2) said

  pub together_delivered : (p q w : ℕ) → Honest m p → Honest m q → (tally p).delivered ≡ Some w → (tally q).delivered ≡ Some w
  together_delivered p q w hp hq e = all_delivered w (delivered_ready p w hp e) q hq

  -- the order of a craft that is not astray is echoed by all
  all_echo : (w : ℕ) → Honest m o → m.heard o o (note Send o k w) ≡ true → (r : ℕ) → Honest m r → m.heard r r (note Echo o k w) ≡ true
  all_echo w ho e r hr =
      let own = some_present ((tally r).echo r) ((entry es s h law o k r).echoed w (law.nothing_lost rest r o (note Send o k w) hr ho e)) in
      let said = (entry es s h law o k r).echo.heard r own.0 own.1 in
      let sent = law.nothing_invented r o (note Send o k own.0) hr ho ((entry es s h law o k r).cause own.0 said) in
      subst (λ (v : ℕ). m.heard r r (note Echo o k v) ≡ true) (h.sends.once o k own.0 w sent e) said

  echoed_ready : (w : ℕ) → ((r : ℕ) → Honest m r → m.heard r r (note Echo o k w) ≡ true) → AllReady w
  echoed_ready w all q hq =
      let n = all_count Echo (λ p. (tally p).echo) (λ p. (entry es s h law o k p).echo) w all q hq in
      let own = some_present ((tally q).ready q) ((entry es s h law o k q).settled.by_echoes w (omega (arith, n, law.limits.few))) in
      let said = (entry es s h law o k q).ready.heard q own.0 own.1 in
      let b = echo_behind es s h law o k own.0 (h.votes.certificate q o k own.0 hq said) in
      subst (λ (v : ℕ). m.heard q q (note Ready o k v) ≡ true) (one_echo es s h law o k b.0 own.0 w b.2 (all b.0 b.1)) said

  pub order_delivered : (w : ℕ) → Honest m o → m.heard o o (note Send o k w) ≡ true → (q : ℕ) → Honest m q → (tally q).delivered ≡ Some w
  order_delivered w ho e q hq = all_delivered w (echoed_ready w (all_echo w ho e)) q hq

pub at_rest : (es : List Event) (s : State) → Kept es s → Lawful s.carrier → s.carrier.waiting ≡ 0 → AtRest es s.carrier
at_rest es s h law rest =
    let honest-of = not_astray_honest es s h in
    record {
      together = λ p q o k hp hq x.
          (x.0, h.deliveries.tells q o k x.0 (together_delivered es s h law rest o k p q x.0 (honest-of p hp) (honest-of q hq) (h.deliveries.told p o k x.0 x.1)));
      arrives = λ p o k w hp ho x. h.deliveries.tells p o k w (order_delivered es s h law rest o k w (honest-of o ho) (h.sends.sent o k w x) p (honest-of p hp));
    }
