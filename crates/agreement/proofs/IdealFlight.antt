-- A flight over the carrier of IdealCarrier. Assumes nothing.
--   empty             a ledger with nothing in it
--   opening           a flight with that ledger over a carrier that nothing was done with is an opening
--   vote_sound-here   an Echo and a Ready on any order may be said
--   voted             the ledger once l has voted on the note t of a
--   vote              the step of that vote
--   carry_accepted    where something waits, a carry is accepted
use Rattle.std.proofs.Common.{◌≡◌, ℕ, ◌<◌, ◌≤◌, Bool, true, false, cond, not, eqb, ltb, leb, List, length, refl, ap, arith}
use Rattle.std.proofs.lemmas.Bool.{lt-leb, le-ltb, lt-ltb, le-leb, and_from, or_left}
use Rattle.refusals.proofs.FirstCause.{accepts}
use Rattle.matter.specs.Layouts.{Kind}
use Rattle.frames.specs.declared.notes.Step.{Step}
use Rattle.frames.specs.declared.notes.Step.TheVariants.{Echo, Ready}
use Rattle.frames.specs.declared.notes.Note.{Note}
use Rattle.frames.specs.Notes.{is_send, sound, last_number, note}
use Rattle.agreement.specs.Votes.{blank, hear}
use Rattle.agreement.specs.Flights.{State, Ledger, carry, Accepted, Voted, here, turn, telling, causes}
use Rattle.agreement.specs.Runs.{Opening}
use Rattle.agreement.specs.Lives.{state}
use Rattle.agreement.proofs.IdealCarrier.{Net, mean, say_all_lem, idle_net, idle_fresh}

abbrev pub empty : Ledger
empty = record { votes = λ c o k. blank; ordered = λ c k. false; out = λ c o k. false; booked = λ c o k. false }

pub opening : Opening (state (mean idle_net) empty)
opening = record { fresh = idle_fresh; empty = record { votes = λ c o k. refl; ordered = λ c k. refl; out = λ c o k. refl; booked = λ c o k. refl } }

pub vote_sound-here : (p : ℕ) (x : Step) (o k w : ℕ) → o < 4 → k ≤ last_number → is_send x ≡ false → sound 4 p (note x o k w) ≡ true
vote_sound-here p x o k w ho hk e =
    and_from (ltb o 4) _ (lt-ltb o 4 ho) (and_from (leb k last_number) _ (le-leb k last_number hk) (or_left (not (is_send x)) (eqb o p) (ap not e)))

abbrev pub voted : State → ℕ → ℕ → Note → (ℕ → ℕ → Bool) → Ledger
voted s l a t marks = record {
  votes = λ c o k. cond (here l t.origin t.number c o k) (turn s l a t).after (s.ledger.votes c o k);
  ordered = marks;
  out = s.ledger.out;
  booked = s.ledger.booked;
}

pub vote : (x y : Net) (b : Ledger) (l a : ℕ) (t : Note) (marks : ℕ → ℕ → Bool) → l < 4 → t.origin < 4 → t.number ≤ last_number
    → (z : Net) × Voted 4 (state (mean x) b) (mean y) l a t (telling (turn (state (mean x) b) l a t).delivers l t) (state (mean z) (voted (state (mean x) b) l a t marks))
unfolding hear
vote x y b l a t marks hl ho hk =
    let s = state (mean x) b in
    let r = say_all_lem y l (turn s l a t).echoes (turn s l a t).readies (note Echo t.origin t.number t.content) (note Ready t.origin t.number t.content) hl
    (vote_sound-here l Echo t.origin t.number t.content ho hk refl) (vote_sound-here l Ready t.origin t.number t.content ho hk refl) in
    (r.0, record { says = r.1; votes = λ c o k. refl; told = refl })

pub carry_accepted : (ks : List Kind) (x : Net) (b : Ledger) → 0 < length x.queue → Accepted ks (state (mean x) b) (carry 0)
carry_accepted ks x b h = accepts (causes ks (state (mean x) b) (carry 0)) (lt-leb (length x.queue) 0 h, (le-ltb 64 3 (omega arith), tt))
