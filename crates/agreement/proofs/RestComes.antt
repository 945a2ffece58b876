-- Part (c): every accepted carry lowers the flight's toil. Assumes nothing.
--   said_more     what a turn says was not said before
--   total_bound   n craft say at most 8n² Echoes and Readies
--   total_more    what one craft says more of one order, all have said more
--   moved_falls, heard_falls
--                 an accepted carry lowers the toil by 1 at least: what is said then costs at most g each, and was paid for
--   carry_falls   every carry, accepted or refused
--   rest_comes    part (c)
use Rattle.std.proofs.Common.{◌≡◌, ℕ, ◌+◌, ◌-◌, ◌*◌, ◌<◌, ◌≤◌, Bool, true, false, ltb, leb, List, Option, sym, refl, ap, ◌∙◌, subst, ⊎_elim, mul-le-mul_left, arith}
use mathlib.Core.Path.{subst₃}
use Rattle.std.proofs.lemmas.Bool.{cases_Bool, cond-true, cond-false, and_parts, not-true, ltb-true, leb-true, both_ways, true≢false}
use Rattle.matter.specs.Layouts.{Kind}
use Rattle.frames.specs.declared.notes.Step.{Step}
use Rattle.frames.specs.declared.notes.Step.TheVariants.{Send, Echo, Ready}
use Rattle.frames.specs.declared.notes.Note.{Note}
use Rattle.frames.specs.Notes.{last_number, is_send}
use Rattle.agreement.specs.Votes.{Tally, present, first, hear, says_echo, echo_after, ready_heard, ready_due, says_ready, ready_after}
use Rattle.agreement.specs.Flights.{State, Ledger, Delivery, Event, ordered, moved, heard, meddled, collected, booked, returned, refused, Answered, Hearing, Moving, here, turn, flag, sum, numbers, votes_said, total_said, flight_toil}
use Rattle.agreement.specs.Runs.{Run, still, then, Carry, Carries, accepted, accepted_in}
use Rattle.agreement.specs.Agreement.{RestComes}
use Rattle.agreement.proofs.FirstVotes.{first_there, grows_present}
use Rattle.agreement.proofs.Turns.{grows_echo, grows_heard, grows_ready, said_there}
use Rattle.agreement.proofs.KeptVotes.{turn_spoken, here_self, here-parts}
use Rattle.agreement.proofs.KeptRuns.{source_of}
use Rattle.agreement.proofs.Sums.{sum_bound, sum_mono, sum_more}

-- ---- what a turn says was not said before

flag_mono : (b c : Bool) → (b ≡ true → c ≡ true) → flag b ≤ flag c
flag_mono true true h = omega arith
flag_mono true false h = absurd (true≢false (sym (h refl)))
flag_mono false true h = omega arith
flag_mono false false h = omega arith

-- it was not there and is there now, or it stays
flag_more : (b e c : Bool) → (b ≡ true → c ≡ true) → (e ≡ true → b ≡ false) → (e ≡ true → c ≡ true) → flag b + flag e ≤ flag c
flag_more b true c keeps new there = rw (new refl, there refl) (omega arith)
flag_more b false c keeps new there = omega (arith, flag_mono b c keeps)

module _ (n f p a w : ℕ) (t : Tally) where
  echo_new : (x : Step) → says_echo n f p a w t x ≡ true → present (t.echo p) ≡ false
  echo_new Send e = not-true (present (t.echo p)) e
  echo_new Echo e = absurd (true≢false (sym e))
  echo_new Ready e = absurd (true≢false (sym e))

  echo_there : (x : Step) → says_echo n f p a w t x ≡ true → present (echo_after n f p a w t x p) ≡ true
  echo_there Send e =
      ap (λ (F : ℕ → Option ℕ). present (F p)) (cond-true (says_echo n f p a w t Send) (first p w t.echo) t.echo e) ∙ first_there p w t.echo
  echo_there Echo e = absurd (true≢false (sym e))
  echo_there Ready e = absurd (true≢false (sym e))

  ready_new : (x : Step) → says_ready n f p a w t x ≡ true → present (t.ready p) ≡ false
  ready_new x e = ⊎_elim
      (λ (h : present (t.ready p) ≡ true).
      absurd (both_ways (present (ready_heard n f p a w t x p)) (not-true (present (ready_heard n f p a w t x p)) (and_parts (ready_due n f p a w t x) _ e).1) (grows_present (grows_heard n f p a w t x) p h)))
      (λ h. h)
      (cases_Bool (present (t.ready p)))

  said_more : (x : Step) → votes_said t p + (flag (says_echo n f p a w t x) + flag (says_ready n f p a w t x)) ≤ votes_said (hear n f p a w t x).after p
  unfolding hear
  said_more x = omega (
    arith,
    flag_more (present (t.echo p)) (says_echo n f p a w t x) (present (echo_after n f p a w t x p)) (grows_present (grows_echo n f p a w t x) p) (echo_new x) (echo_there x),
    flag_more (present (t.ready p)) (says_ready n f p a w t x) (present (ready_after n f p a w t x p)) (grows_present (grows_ready n f p a w t x) p) (ready_new x) (said_there n f p a w t x),
  )

-- ---- all that is said

flag_le : (b : Bool) → flag b ≤ 1
flag_le true = omega arith
flag_le false = omega arith

pub total_bound : (n : ℕ) (votes : ℕ → ℕ → ℕ → Tally) → total_said n votes ≤ 8 * (n * n)
total_bound n votes =
    omega (
      arith,
      sum_bound n (n * (numbers * 2)) (λ p. sum n (λ o. sum numbers (λ k. votes_said (votes p o k) p))) (λ p.
          sum_bound n (numbers * 2) (λ o. sum numbers (λ k. votes_said (votes p o k) p)) (λ o.
          sum_bound numbers 2 (λ k. votes_said (votes p o k) p) (λ k. omega (arith, flag_le (present ((votes p o k).echo p)), flag_le (present ((votes p o k).ready p)))))),
    )

-- one craft says d more of one order, and all else stays
total_more : (n : ℕ) (V W : ℕ → ℕ → ℕ → Tally) (l o k d : ℕ) → ((p b j : ℕ) → votes_said (V p b j) p ≤ votes_said (W p b j) p)
    → l < n → o < n → k < numbers → votes_said (V l o k) l + d ≤ votes_said (W l o k) l → total_said n V + d ≤ total_said n W
total_more n V W l o k d mono hl ho hk e =
    sum_more n (λ p. sum n (λ b. sum numbers (λ j. votes_said (V p b j) p))) (λ p. sum n (λ b. sum numbers (λ j. votes_said (W p b j) p))) l d
    (λ p. sum_mono n (λ b. sum numbers (λ j. votes_said (V p b j) p)) (λ b. sum numbers (λ j. votes_said (W p b j) p)) (λ b.
    sum_mono numbers (λ j. votes_said (V p b j) p) (λ j. votes_said (W p b j) p) (λ j. mono p b j)))
    hl
    (sum_more n (λ b. sum numbers (λ j. votes_said (V l b j) l)) (λ b. sum numbers (λ j. votes_said (W l b j) l)) o d
    (λ b. sum_mono numbers (λ j. votes_said (V l b j) l) (λ j. votes_said (W l b j) l) (λ j. mono l b j))
    ho
    (sum_more numbers (λ j. votes_said (V l o j) l) (λ j. votes_said (W l o j) l) k d (λ j. mono l o j) hk e))

-- ---- one accepted carry

-- d notes said pay for the g that each may add
paid : (g c c' d t t₁ t' : ℕ) → c' + d ≤ c → t₁ + 1 ≤ t → t' ≤ t₁ + g * d → 1 + (t' + g * c') ≤ t + g * c
paid g c c' d t t₁ t' h x y = let z : g * (c' + d) ≤ g * c = mul-le-mul_left g h in omega (arith, x, y, z)

left_over : (n n' a b d : ℕ) → n' ≡ n → a + d ≤ b → b ≤ 8 * (n * n) → (8 * (n' * n') - b) + d ≤ 8 * (n * n) - a
left_over n n' a b d q h l = let e : 8 * (n' * n') ≡ 8 * (n * n) = ap (λ (i : ℕ). 8 * (i * i)) q in omega (arith, e, h, l)

moved_falls : (g : ℕ) (s s' : State) → Moving s s' → 1 + flight_toil g s' ≤ flight_toil g s
moved_falls g s s' x =
    let n = s.carrier.n in
    let q = x.quiet.fixed.n in
    let e : total_said s'.carrier.n s'.ledger.votes ≡ total_said n s.ledger.votes =
    ap (λ (i : ℕ). total_said i s'.ledger.votes) q ∙ ap (λ (b : Ledger). total_said n b.votes) x.ledger in
    paid g (8 * (n * n) - total_said n s.ledger.votes) (8 * (s'.carrier.n * s'.carrier.n) - total_said s'.carrier.n s'.ledger.votes) 0
    s.carrier.toil s'.carrier.toil s'.carrier.toil
    (left_over n s'.carrier.n (total_said n s.ledger.votes) (total_said s'.carrier.n s'.ledger.votes) 0 q (omega (arith, e)) (omega (arith, e, total_bound n s.ledger.votes)))
    x.quiet.toil (omega arith)

module _ (g : ℕ) (s s' : State) (l a : ℕ) (t : Note) (d : Option Delivery) (x : Hearing g s l a t d s') where
  abbrev n : ℕ
  n = s.carrier.n

  abbrev tally : Tally
  tally = s.ledger.votes l t.origin t.number

  abbrev said : ℕ
  said = flag (says_echo n s.carrier.f l a t.content tally t.step) + flag (says_ready n s.carrier.f l a t.content tally t.step)

  here_more : votes_said (s.ledger.votes l t.origin t.number) l + said ≤ votes_said (s'.ledger.votes l t.origin t.number) l
  here_more =
      let e : s'.ledger.votes l t.origin t.number ≡ (turn s l a t).after =
      x.voted.votes l t.origin t.number ∙ cond-true (here l t.origin t.number l t.origin t.number) (turn s l a t).after tally (here_self l t.origin t.number) in
      subst (λ (z : Tally). votes_said tally l + said ≤ votes_said z l) (sym e) (said_more n s.carrier.f l a t.content tally t.step)

  none_fewer : (p o k : ℕ) → votes_said (s.ledger.votes p o k) p ≤ votes_said (s'.ledger.votes p o k) p
  none_fewer p o k = ⊎_elim
      (λ (i : here l t.origin t.number p o k ≡ true).
      let q = here-parts l t.origin t.number p o k i in
      let r : votes_said (s.ledger.votes l t.origin t.number) l ≤ votes_said (s'.ledger.votes l t.origin t.number) l = omega (arith, here_more) in
      subst₃ (λ (c b j : ℕ). votes_said (s.ledger.votes c b j) c ≤ votes_said (s'.ledger.votes c b j) c) q.0 q.1 q.2 r)
      (λ i.
      let e : s'.ledger.votes p o k ≡ s.ledger.votes p o k =
      x.voted.votes p o k ∙ cond-false (here l t.origin t.number p o k) (turn s l a t).after (s.ledger.votes p o k) i in
      omega (arith, ap (λ (z : Tally). votes_said z p) e))
      (cases_Bool (here l t.origin t.number p o k))

  heard_falls : 1 + flight_toil g s' ≤ flight_toil g s
  heard_falls =
      let y = x.hears in
      let apart : is_send t.step ≡ false → a ≡ l → ⊥ = λ _ q. y.apart (sym q) in
      let sp = turn_spoken g s s' x.between l a t d y.fixed y.astray y.heard apart (source_of n a t y.sound) x.voted in
      let q : s'.carrier.n ≡ n = sp.fixed.n ∙ y.fixed.n in
      let snd = and_parts (ltb t.origin n) _ y.sound in
      let more = total_more n s.ledger.votes s'.ledger.votes l t.origin t.number said none_fewer y.listener (ltb-true t.origin n snd.0)
      (omega (arith, leb-true t.number last_number (and_parts (leb t.number last_number) _ snd.1).0)) here_more in
      let e : total_said s'.carrier.n s'.ledger.votes ≡ total_said n s'.ledger.votes = ap (λ (i : ℕ). total_said i s'.ledger.votes) q in
      paid g (8 * (n * n) - total_said n s.ledger.votes) (8 * (s'.carrier.n * s'.carrier.n) - total_said s'.carrier.n s'.ledger.votes) said
      s.carrier.toil x.between.toil s'.carrier.toil
      (left_over n s'.carrier.n (total_said n s.ledger.votes) (total_said s'.carrier.n s'.ledger.votes) said q
      (subst (λ (i : ℕ). total_said n s.ledger.votes + said ≤ i) (sym e) more)
      (subst (λ (i : ℕ). i ≤ 8 * (n * n)) (sym e) (total_bound n s'.ledger.votes)))
      y.toil sp.toil

-- ---- lists of carries

pub carry_falls : (g : ℕ) (ks : List Kind) (s s' : State) (e : Event) → Carry e → Answered g ks s e s' → accepted e + flight_toil g s' ≤ flight_toil g s
carry_falls g ks s s' (ordered c k w d) only x = absurd only
carry_falls g ks s s' (moved i) only x = moved_falls g s s' x.1
carry_falls g ks s s' (heard i l a t d) only x = heard_falls g s s' l a t d x.1
carry_falls g ks s s' (meddled c to u) only x = absurd only
carry_falls g ks s s' (collected c o k) only x = absurd only
carry_falls g ks s s' (booked c o k place buffer after) only x = absurd only
carry_falls g ks s s' (returned c o k) only x = absurd only
carry_falls g ks s s' (refused c v) only x = subst (λ (z : State). 0 + flight_toil g z ≤ flight_toil g s) (sym x.1) (omega arith)

chain : (a b u t s : ℕ) → a + u ≤ t → b + t ≤ s → (a + b) + u ≤ s
chain a b u t s x y = omega arith

within : (a u s : ℕ) → a + u ≤ s → a ≤ s
within a u s x = omega arith

falls : {g : ℕ} {ks : List Kind} {s s' : State} {cs : List Event} → Run g ks s cs s' → Carries cs → accepted_in cs + flight_toil g s' ≤ flight_toil g s
falls {g} (still {s} ok) only = omega arith
falls {g} {ks} (then {s} {t} {u} {es} {e} run x ok) only =
    let a : accepted e + flight_toil g u ≤ flight_toil g t = carry_falls g ks t u e only.0 x in
    let b : accepted_in es + flight_toil g t ≤ flight_toil g s = falls run only.1 in
    chain (accepted e) (accepted_in es) (flight_toil g u) (flight_toil g t) (flight_toil g s) a b

pub rest_comes : (g : ℕ) (ks : List Kind) (s : State) → RestComes g ks s
rest_comes g ks s cs s' run only = within (accepted_in cs) (flight_toil g s') (flight_toil g s) (falls run only)
