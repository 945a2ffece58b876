-- A flight over the carrier of IdealCarrier whose order arrives. Assumes nothing.
--   Carried       an accepted carry
--   carried       where something waits, there is one
--   Rested        a run with the order in it, by nobody astray, after which nothing waits
--   until_rest    there is one: carries follow until nothing waits, which comes since the toil falls
--   possible      what was ordered was delivered to all
use Rattle.std.proofs.Common.{◌≡◌, ℕ, zero, suc, ◌+◌, ◌<◌, ◌≤◌, Bool, true, false, not, ◌&&◌, ◌||◌, eqb, ltb, leb, List, [], ◌∷◌, length, None, refl, inl, inr, ⊎_elim, arith}
use Rattle.std.proofs.lemmas.Bool.{cases_lt, lt-leb, le-ltb, lt-ltb, le-leb, and_parts, and_from, or_right, eq-eqb, ltb-true, leb-true}
use Rattle.refusals.specs.Refusals.{cause}
use Rattle.refusals.proofs.FirstCause.{accepts, clear-append}
use Rattle.matter.specs.Layouts.{Kind, word_refusal}
use Rattle.frames.specs.declared.notes.Step.TheVariants.{Send}
use Rattle.frames.specs.Notes.{is_send, sound, note}
use Rattle.agreement.specs.Flights.{State, Ledger, Event, ordered, moved, heard, order, Accepted, Answered, turn, telling, word_cause, tight, causes, flight_toil}
use Rattle.agreement.specs.Runs.{Run, still, then, Ordered, Astray, Misleads, Carry, accepted}
use Rattle.agreement.specs.Lives.{state}
use Rattle.agreement.specs.Possible.{Arrives, Possible}
use Rattle.agreement.proofs.Causes.{word_clear}
use Rattle.agreement.proofs.RestComes.{carry_falls}
use Rattle.agreement.proofs.Agrees.{agreement}
use Rattle.agreement.proofs.IdealFlight.{empty, opening, voted, vote, carry_accepted}
use Rattle.agreement.proofs.IdealCarrier.{Net, mean, lawful, say, take-first, HeardOf, idle_net}

-- ---- a carry that is accepted

pub record Carried (ks : List Kind) (x : Net) (b : Ledger) : Type 0 where
  pub call : Event
  pub after : Net
  pub ledger : Ledger
  pub only : Carry call
  pub one : accepted call ≡ 1
  pub loyal : (i : ℕ) → Misleads call i → ⊥
  pub step : Answered 4 ks (state (mean x) b) call (state (mean after) ledger)

carried_heard : (ks : List Kind) (x : Net) (b : Ledger) → 0 < length x.queue → HeardOf x → Carried ks x b
carried_heard ks x b h r =
    let l = r.listener in
    let a = r.author in
    let t = r.said in
    let s = state (mean x) b in
    let snd = and_parts (ltb t.origin 4) _ r.hears.sound in
    let v = vote x r.after b l a t b.ordered r.hears.listener (ltb-true t.origin 4 snd.0) (leb-true t.number 3 (and_parts (leb t.number 3) _ snd.1).0) in
    record {
      call = heard 0 l a t (telling (turn s l a t).delivers l t);
      after = v.0;
      ledger = voted s l a t b.ordered;
      only = tt;
      one = refl;
      loyal = λ i z. z;
      step = (
        carry_accepted ks x b h,
        record {
          between = mean r.after;
          hears = r.hears;
          voted = v.1;
          orders = λ c k. refl;
          slips = record { out = λ c o k. refl; booked = λ c o k. refl };
        },
      );
    }

carried : (ks : List Kind) (x : Net) (b : Ledger) → 0 < length x.queue → Carried ks x b
carried ks x b h = ⊎_elim
    (λ r. record {
      call = moved 0;
      after = r.0;
      ledger = b;
      only = tt;
      one = refl;
      loyal = λ i z. z;
      step = (carry_accepted ks x b h, record { quiet = r.1; ledger = refl });
    })
    (carried_heard ks x b h)
    (take-first x h)

-- ---- carries until nothing waits

pub record Rested (ks : List Kind) (s₀ : State) (w : ℕ) : Type 0 where
  pub net : Net
  pub ledger : Ledger
  pub calls : List Event
  pub run : Run 4 ks s₀ calls (state (mean net) ledger)
  pub ordered : Ordered calls 0 0 w
  pub loyal : (i : ℕ) → Astray calls i → ⊥
  pub rest : length net.queue ≡ 0

less : (a u t k : ℕ) → a ≡ 1 → a + u ≤ t → t < suc k → u < k
less a u t k e x y = omega arith

until_rest : (ks : List Kind) (s₀ : State) (w fuel : ℕ) (x : Net) (b : Ledger) (es : List Event) → flight_toil 4 (state (mean x) b) < fuel
    → Run 4 ks s₀ es (state (mean x) b) → Ordered es 0 0 w → ((i : ℕ) → Astray es i → ⊥) → Rested ks s₀ w
until_rest ks s₀ w zero x b es h run o loyal = absurd (omega arith)
until_rest ks s₀ w (suc fuel) x b es h run o loyal = ⊎_elim
    (λ (l : 0 < length x.queue).
    let r = carried ks x b l in
    let f : accepted r.call + flight_toil 4 (state (mean r.after) r.ledger) ≤ flight_toil 4 (state (mean x) b) = carry_falls 4 ks (state (mean x) b) (state (mean r.after) r.ledger) r.call r.only r.step in
    until_rest ks s₀ w fuel r.after r.ledger (r.call ∷ es)
    (less (accepted r.call) (flight_toil 4 (state (mean r.after) r.ledger)) (flight_toil 4 (state (mean x) b)) fuel r.one f h)
    (then run r.step (lawful r.after)) (inr o) (λ i. ⊎_elim (r.loyal i) (loyal i)))
    (λ z. record { net = x; ledger = b; calls = es; run = run; ordered = o; loyal = loyal; rest = omega arith })
    (cases_lt 0 (length x.queue))

-- ---- the order

marked : ℕ → ℕ → Bool
marked b j = false || (eqb 0 b && eqb 0 j)

order_accepted : (ks : List Kind) (w : ℕ) → word_refusal ks w ≡ None → Accepted ks (state (mean idle_net) empty) (order 0 0 w)
order_accepted ks w e =
    accepts (causes ks (state (mean idle_net) empty) (order 0 0 w))
    (lt-leb 4 0 (omega arith), (le-ltb 3 0 (omega arith), clear-append (word_cause (word_refusal ks w)) (cause 4 6 (0 ∷ []) false ∷ tight (state (mean idle_net) empty)) (word_clear (word_refusal ks w) e) (refl, (le-ltb 64 3 (omega arith), tt))))

arrives : (ks : List Kind) (w : ℕ) → word_refusal ks w ≡ None → Arrives ks w
unfolding marked
arrives ks w e =
    let s₀ = state (mean idle_net) empty in
    let t = note Send 0 0 w in
    let own : sound 4 0 t ≡ true = and_from (ltb 0 4) _ (lt-ltb 0 4 (omega arith)) (and_from (leb 0 3) _ (le-leb 0 3 (omega arith)) (or_right (not (is_send Send)) (eqb 0 0) (eq-eqb 0 0 refl))) in
    let x = say idle_net 0 t (omega arith) own in
    let v = vote idle_net x.0 empty 0 0 t marked (omega arith) (omega arith) (omega arith) in
    let b = voted s₀ 0 0 t marked in
    let d = telling (turn s₀ 0 0 t).delivers 0 t in
    let step : Answered 4 ks s₀ (ordered 0 0 w d) (state (mean v.0) b) = (
      order_accepted ks w e,
      record {
        between = mean x.0;
        said = x.1;
        voted = v.1;
        orders = λ c k. refl;
        slips = record { out = λ c o k. refl; booked = λ c o k. refl };
      },
    ) in
    let r = until_rest ks s₀ w (suc (flight_toil 4 (state (mean v.0) b))) v.0 b (ordered 0 0 w d ∷ []) (omega arith)
    (then (still (lawful idle_net)) step (lawful v.0)) (inl (refl, refl, refl)) (λ i. ⊎_elim (λ z. z) (λ z. z)) in
    record {
      start = s₀;
      final = state (mean r.net) r.ledger;
      calls = r.calls;
      opening = opening;
      run = r.run;
      craft = refl;
      most_astray = refl;
      ordered = r.ordered;
      rest = r.rest;
      delivered = λ p hp. ((agreement 4 ks s₀ (state (mean r.net) r.ledger) r.calls opening r.run).rest r.rest).arrives p 0 0 w
          (record { below = hp; never = r.loyal p }) (record { below = omega arith; never = r.loyal 0 }) r.ordered;
    }

pub possible : Possible
possible ks w e = arrives ks w e
