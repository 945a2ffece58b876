-- Part (a): one content, and the one ordered. Assumes nothing.
--   one_echo            a craft says one Echo for an origin and a number
--   echo_behind         a certificate has an Echo of a craft that is not astray
--   one_ready           all Readies of craft that are not astray have one content, since two quorums share one such craft
--   ready_behind        a delivery has a Ready of a craft that is not astray
--   one_delivered       deliveries to craft that are not astray have one content
--   right_delivered     the origin, if not astray, said Send of it
--   got                 what a craft got was delivered to it
--   not_astray_honest   a craft that never meddled is not astray
--   one_content         part (a)
use Rattle.std.proofs.Common.{◌≡◌, ℕ, true, List, Some, ⊎_elim, arith}
use Rattle.sets.proofs.Counts.{one_outside}
use Rattle.sets.proofs.Passing.{one_passes_outside}
use Rattle.sets.proofs.Quorums.{quorum_witness}
use Rattle.sets.proofs.Members.{in_below, not_in}
use Rattle.frames.specs.declared.notes.Step.TheVariants.{Send, Echo, Ready}
use Rattle.frames.specs.Notes.{note}
use Rattle.agreement.specs.Meanings.{Meaning, Honest, Lawful}
use Rattle.agreement.specs.Votes.{Tally, is, backers}
use Rattle.agreement.specs.Flights.{State, Event}
use Rattle.agreement.specs.Runs.{Delivered}
use Rattle.agreement.specs.Agreement.{Got, OneContent, NotAstray}
use Rattle.agreement.proofs.FirstVotes.{is_true, same_some}
use Rattle.agreement.proofs.Entries.{Entry}
use Rattle.agreement.proofs.Certificates.{Certificate}
use Rattle.agreement.proofs.KeptRuns.{Kept}

module _ (es : List Event) (s : State) (h : Kept es s) (law : Lawful s.carrier) (o k : ℕ) where
  abbrev m : Meaning
  m = s.carrier

  abbrev tally : ℕ → Tally
  tally p = s.ledger.votes p o k

  pub entry : (p : ℕ) → Entry m.n m.f m (tally p) p o k
  entry p = h.votes.entry p o k

  -- a craft says one Echo
  pub one_echo : (p w v : ℕ) → m.heard p p (note Echo o k w) ≡ true → m.heard p p (note Echo o k v) ≡ true → w ≡ v
  one_echo p w v x y = same_some ((entry p).echo.own w x) ((entry p).echo.own v y)

  -- a certificate has one craft at least that is not astray
  pub echo_behind : (w : ℕ) → Certificate m.n m.f m o k w → (i : ℕ) × Honest m i × (m.heard i i (note Echo o k w) ≡ true)
  echo_behind w c =
      let r = one_outside m.f c.voters m.astray (omega (arith, c.many, law.limits.few)) h.votes.few in
      (r.0, record { below = in_below m.n c.voters r.0 c.within r.1; loyal = r.2 }, c.said r.0 r.1 r.2)

  -- all Readies of craft not astray have one content
  pub one_ready : (p q w v : ℕ) → Honest m p → Honest m q → m.heard p p (note Ready o k w) ≡ true → m.heard q q (note Ready o k v) ≡ true → w ≡ v
  one_ready p q w v hp hq x y =
      let c = h.votes.certificate p o k w hp x in
      let d = h.votes.certificate q o k v hq y in
      let r = quorum_witness m.n m.f c.voters d.voters m.astray c.within d.within c.many d.many h.votes.few in
      one_echo r.0 w v (c.said r.0 r.1 r.3) (d.said r.0 r.2 r.3)

  -- a craft not astray said Ready of what is delivered
  pub ready_behind : (p w : ℕ) → Honest m p → (tally p).delivered ≡ Some w → (i : ℕ) × Honest m i × (m.heard i i (note Ready o k w) ≡ true)
  unfolding backers
  ready_behind p w hp e =
      let r = one_passes_outside m.n m.f m.astray (λ a. is ((tally p).ready a) w) (omega (arith, (entry p).counted w e)) h.votes.few in
      let hi : Honest m r.0 = record { below = r.1; loyal = r.3 } in
      (r.0, hi, law.nothing_invented p r.0 (note Ready o k w) hp hi ((entry p).ready.heard r.0 w (is_true ((tally p).ready r.0) w r.2)))

  pub one_delivered : (p q w v : ℕ) → Honest m p → Honest m q → (tally p).delivered ≡ Some w → (tally q).delivered ≡ Some v → w ≡ v
  one_delivered p q w v hp hq x y =
      let a = ready_behind p w hp x in
      let b = ready_behind q v hq y in
      one_ready a.0 b.0 w v a.1 b.1 a.2 b.2

  pub right_delivered : (p w : ℕ) → Honest m p → Honest m o → (tally p).delivered ≡ Some w → m.heard o o (note Send o k w) ≡ true
  right_delivered p w hp ho x =
      let a = ready_behind p w hp x in
      let b = echo_behind w (h.votes.certificate a.0 o k w a.1 a.2) in
      law.nothing_invented b.0 o (note Send o k w) b.1 ho ((entry b.0).cause w b.2)

  -- what a craft got was delivered to it
  pub got : (p w : ℕ) → Got es p o k w → (tally p).delivered ≡ Some w
  got p w = ⊎_elim (λ (x : Delivered es p o k w). h.deliveries.told p o k w x) (λ x. h.deliveries.books p o k w x)

-- who was never led astray is not astray
pub not_astray_honest : (es : List Event) (s : State) → Kept es s → (i : ℕ) → NotAstray es s.carrier i → Honest s.carrier i
not_astray_honest es s h i l = record {
  below = l.below;
  loyal = not_in s.carrier.astray i (λ e. l.never (h.astray i e));
}

pub one_content : (es : List Event) (s : State) → Kept es s → Lawful s.carrier → OneContent es s.carrier
one_content es s h law =
    let honest-of = not_astray_honest es s h in
    record {
      one = λ p q o k w v hp hq x y. one_delivered es s h law o k p q w v (honest-of p hp) (honest-of q hq) (got es s h law o k p w x) (got es s h law o k q v y);
      right = λ p o k w hp ho x. h.sends.ordered o k w (right_delivered es s h law o k p w (honest-of p hp) (honest-of o ho) (got es s h law o k p w x));
    }
