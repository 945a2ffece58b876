-- Commands, one after the other. Assumes nothing.
--   steps_live      calls go on with a life
--   steps_on        calls after calls
--   apart           a call that leaves the carrier as it was
--   life_sound      whoever has a life has a sound carrier
--   steps_run       over a sound carrier calls are a run
--   goes_on         calls go on with a life, then the craft agree, and carries alone come to an end
--   executed, executed_once
--                   a command, and one that is one call
--   all_none, all_on   no commands, and one command more
--   flown           a flight that was opened just now, and executed commands
--   taken           a slip that was just collected is taken back
--   books_written, books_no_room
--                   the calls of a booking, by the labels of its slip
use Rattle.std.proofs.Common.{◌≡◌, ℕ, ◌+◌, ◌<◌, true, not, eqb, List, [], ◌∷◌, ◌++◌, length, get_or, set, take, append-nil, min, drop, None, Ok, Err, Option, Result, sym, refl, ap, subst, ◌∙◌}
use Rattle.std.proofs.lemmas.Bool.{cond-false, and_from, eq-eqb, or_right}
use Rattle.std.proofs.lemmas.List.{take_more, take_more_set}
use Rattle.std.proofs.lemmas.Option.{none-some}
use Rattle.refusals.specs.declared.Fault.{Fault}
use Rattle.refusals.specs.Refusals.{Told, told}
use Rattle.matter.specs.Layouts.{Kind}
use Rattle.frames.specs.declared.notes.Note.{Note}
use Rattle.frames.specs.declared.notes.Frame.{Frame}
use Rattle.agreement.specs.Meanings.{Meaning, Lawful, Fresh}
use Rattle.agreement.specs.Flights.{State, Event, collected, booked, returned, refused, book, put_back, here, Answered}
use Rattle.agreement.specs.Agreement.{Agrees}
use Rattle.agreement.specs.Flights.{Ledger}
use Rattle.agreement.specs.Lives.{Life}
use Rattle.agreement.specs.Lives as lives
use Rattle.agreement.specs.Runs.{Run, still, then}
use Rattle.agreement.proofs.Agrees.{agreement_over_lem}
use Rattle.carriers.specs.declared.heard.Heard.{Heard}
use Rattle.flight.specs.declared.flight.Flight.{Flight}
use Rattle.flight.specs.declared.lists.Command.{Command}
use Rattle.flight.specs.declared.lists.Answer.{Answer}
use Rattle.flight.specs.Ledgers.{state_of}
use Rattle.flight.specs.Exact.{Exactly}
use Rattle.flight.specs.Lives as flights
use Rattle.flight.specs.Lives.{Lived, Opens, CallStep, CallSteps}
use Rattle.flight.specs.Lists.{BookingCalls, written, no_room, Does, Did, GoesOn, Executed, ExecutedAll, Flown}
use Rattle.flight.specs.Lists as lists

-- whoever has a life has a sound carrier
module _ {C : Type 0} {meaning : C → Meaning} {sound : C → Type 0} {g : ℕ} {ks : List Kind} where
  life_sound : {es : List Event} {c : C} {b : Ledger} → Life meaning sound g ks es c b → sound c
  life_sound (lives.begun opened) = opened.kept
  life_sound (lives.called life call) = call.kept (life_sound life)

module _ {C M : Type 0} (meaning : C → Meaning) (sound : C → Type 0) (g : ℕ) (ks : List Kind) (says : C → ℕ → Note → Result Unit Fault → C → Type 0)
    (carries : C → ℕ → Result (Option Heard) Fault → C → Type 0) (meddles : C → ℕ → ℕ → Frame → Result Unit Fault → C → Type 0) where
  abbrev Goes : Flight C M → List Event → Flight C M → Type 0
  Goes x es x' = CallSteps meaning sound g ks says carries meddles x es x'

  abbrev Took : Flight C M → Event → Flight C M → Type 0
  Took x e x' = CallStep meaning sound g ks says carries meddles x e x'

  pub steps_live : (x x' : Flight C M) (calls es : List Event) → Goes x calls x' → Lived meaning sound g ks es x → Lived meaning sound g ks (calls ++ es) x'
  steps_live x x' [] es flights.none life = life
  steps_live x x' (e ∷ calls) es (flights.then {y = y} steps step) life = lives.called (steps_live x y calls es steps life) step.call

  pub steps_on : (x y z : Flight C M) (es calls : List Event) → Goes x es y → Goes y calls z → Goes x (calls ++ es) z
  steps_on x y z es [] h flights.none = h
  steps_on x y z es (e ∷ calls) h (flights.then {y = w} steps step) = flights.then (steps_on x y w es calls h steps) step

  -- a call that leaves the carrier as it was
  pub apart : (x x' : Flight C M) (e : Event) → Answered g ks (state_of meaning x) e (state_of meaning x') → x'.carrier ≡ x.carrier
      → Exactly meaning says carries meddles x e x' → Took x e x'
  apart x x' e step same exact = record { call = record { step = λ _. step; kept = λ s. subst sound (sym same) s }; exact = λ _. exact }

  module _ (law : (c : C) → sound c → Lawful (meaning c)) where
    -- over a sound carrier the calls are a run of the flight's states, and the carrier stays sound
    pub steps_run : (x x' : Flight C M) (calls : List Event) → sound x.carrier → Goes x calls x'
        → Run g ks (state_of meaning x) calls (state_of meaning x') × sound x'.carrier
    steps_run x x' [] ok flights.none = (still (law x.carrier ok), ok)
    steps_run x x' (e ∷ calls) ok (flights.then {y = y} steps step) =
        let before = steps_run x y calls ok steps in
        let kept = step.call.kept before.1 in
        (then before.0 (step.call.step before.1) (law x'.carrier kept), kept)

    goes_on : (x x' : Flight C M) (calls : List Event) → Goes x calls x' → GoesOn meaning sound g ks x calls x'
    goes_on x x' calls steps es life =
        let more = steps_live x x' calls es steps life in
        let run = steps_run x x' calls (life_sound life) steps in (
          more,
          agreement_over_lem law g ks (calls ++ es) _ _ more,
          λ carries. (agreement_over_lem law g ks es _ _ life).end calls (state_of meaning x') run.0 carries,
        )

    pub executed : (d : Command) (a : Answer) (x x' : Flight C M) (buffer after : List ℕ) (calls : List Event) → Does d buffer a calls after → Goes x calls x'
        → Executed meaning sound g ks says carries meddles x buffer d a x' after
    executed d a x x' buffer after calls does steps = record { calls = calls; does = does; steps = steps; promise = goes_on x x' calls steps }

    pub executed_once : (d d' : Command) (a : Answer) (x x' : Flight C M) (buffer : List ℕ) (e : Event) → d' ≡ d → Does d buffer a (e ∷ []) buffer → Took x e x'
        → Executed meaning sound g ks says carries meddles x buffer d' a x' buffer
    executed_once d d' a x x' buffer e same does step =
        executed d' a x x' buffer buffer (e ∷ []) (subst (λ (z : Command). Does z buffer a (e ∷ []) buffer) (sym same) does) (flights.then flights.none step)

    pub all_none : (x : Flight C M) (buffer : List ℕ) → ExecutedAll meaning sound g ks says carries meddles x buffer [] [] x buffer
    all_none x buffer = record { calls = []; did = lists.none; steps = flights.none; promise = goes_on x x [] flights.none }

    pub all_on : (ds : List Command) (answers : List Answer) (i : ℕ) (a : Answer) (d : Command) (x y z : Flight C M) (buffer between after : List ℕ) → i < length ds → i < length answers
        → ExecutedAll meaning sound g ks says carries meddles x buffer (take i ds) (take i answers) y between
        → Executed meaning sound g ks says carries meddles y between (get_or ds i d) a z after
        → ExecutedAll meaning sound g ks says carries meddles x buffer (take (i + 1) ds) (take (i + 1) (set answers i a)) z after
    all_on ds answers i a d x y z buffer between after h k before one =
        let steps = steps_on x y z before.calls one.calls before.steps one.steps in
        let did = lists.then (take i ds) (get_or ds i d) (take i answers) a before.calls one.calls between after before.did one.does in
        record {
          calls = one.calls ++ before.calls;
          did = subst (λ (u : List Command). Did buffer u (take (i + 1) (set answers i a)) (one.calls ++ before.calls) after) (sym (take_more ds i d h))
              (subst (λ (u : List Answer). Did buffer (take i ds ++ get_or ds i d ∷ []) u (one.calls ++ before.calls) after) (sym (take_more_set answers i a k)) did);
          steps = steps;
          promise = goes_on x z (one.calls ++ before.calls) steps;
        }

-- a flight over a carrier that was opened just now has no life before
module _ {C M F : Type 0} (meaning : C → Meaning) (sound : C → Type 0) (g : ℕ) (ks : List Kind) (says : C → ℕ → Note → Result Unit Fault → C → Type 0)
    (carries : C → ℕ → Result (Option Heard) Fault → C → Type 0) (meddles : C → ℕ → ℕ → Frame → Result Unit Fault → C → Type 0) (opens : F → Result C Fault → Type 0) where
  pub flown : ((c : C) → sound c → Lawful (meaning c)) → (from : F) (buffer after : List ℕ) (ds : List Command) (before answers : List Answer) (carrier : C) (start x : Flight C M) (n : ℕ)
      → opens from (Ok carrier) → Opens meaning sound g ks carrier start → sound carrier → Fresh (meaning carrier) → n ≡ min (length ds) (length before)
      → ExecutedAll meaning sound g ks says carries meddles start buffer (take n ds) (take n answers) x after → drop n answers ≡ drop n before
      → Flown meaning sound g ks says carries meddles opens from buffer ds before answers x after
  flown law from buffer after ds before answers carrier start x n opened begun kept fresh count e rest =
      let life = e.promise [] (begun.begins kept fresh) in
      let whole = append-nil e.calls in
      record {
        carrier = carrier;
        opened = opened;
        is_sound = kept;
        is_fresh = fresh;
        start = start;
        begun = begun;
        executed = record {
          calls = e.calls;
          did = subst (λ (i : ℕ). Did buffer (take i ds) (take i answers) e.calls after) count e.did;
          steps = e.steps;
          promise = e.promise;
        };
        rest = subst (λ (i : ℕ). drop i answers ≡ drop i before) count rest;
        kept = (steps_run meaning sound g ks says carries meddles law start x e.calls (subst sound (sym begun.carrier) kept) e.steps).1;
        lived = subst (λ (es : List Event). Lived meaning sound g ks es x) whole life.0;
        agrees = subst (λ (es : List Event). Agrees g ks es (state_of meaning x)) whole life.1;
      }

pub taken : (g : ℕ) (ks : List Kind) (s s₁ s₂ s₃ : State) (c o k c' o' k' : ℕ) (v : Told) → c' ≡ c → o' ≡ o → k' ≡ k
    → Answered g ks s (collected c o k) s₁ → s₂ ≡ s₁ → Answered g ks s₂ (refused (put_back c' o' k') v) s₃ → ⊥
taken g ks s s₁ s₂ s₃ c o k c' o' k' v p q r got same told_no =
    let at_once : here c o k c o k ≡ true = and_from (eqb c c) _ (eq-eqb c c refl) (and_from (eqb o o) _ (eq-eqb o o refl) (eq-eqb k k refl)) in
    let out : s₂.ledger.out c' o' k' ≡ true = (λ i. (same i).ledger.out (p i) (q i) (r i)) ∙ got.1.out c o k ∙ or_right (s.ledger.out c o k) (here c o k c o k) at_once in
    none-some v (sym (cond-false (not (s₂.ledger.out c' o' k')) _ None (ap not out)) ∙ told_no.0)

pub books_written : (c o k at sc so sk : ℕ) (buffer after : List ℕ) → sc ≡ c → so ≡ o → sk ≡ k
    → BookingCalls c o k at buffer (Ok tt) (booked sc so sk at buffer after ∷ collected c o k ∷ []) after
books_written c o k at sc so sk buffer after p q r =
    subst (λ (e : Event). BookingCalls c o k at buffer (Ok tt) (e ∷ collected c o k ∷ []) after) (sym (λ i. booked (p i) (q i) (r i) at buffer after)) written

pub books_no_room : (c o k at sc so sk bc bo bk : ℕ) (buffer after : List ℕ) (e : Fault) → sc ≡ c → so ≡ o → sk ≡ k → bc ≡ c → bo ≡ o → bk ≡ k → after ≡ buffer
    → BookingCalls c o k at buffer (Err e) (returned bc bo bk ∷ refused (book sc so sk at buffer) (told e) ∷ collected c o k ∷ []) after
books_no_room c o k at sc so sk bc bo bk buffer after e p q r p' q' r' same =
    subst (λ (z : List ℕ). BookingCalls c o k at buffer (Err e) (returned bc bo bk ∷ refused (book sc so sk at buffer) (told e) ∷ collected c o k ∷ []) z) (sym same)
    (subst (λ (es : List Event). BookingCalls c o k at buffer (Err e) es buffer)
    (sym (λ i. returned (p' i) (q' i) (r' i) ∷ refused (book (p i) (q i) (r i) at buffer) (told e) ∷ collected c o k ∷ [])) no_room)
