-- An accepted carry by which somebody hears. Assumes nothing.
--   may_hear       who hears may speak
--   hearing_done   the carry is answered as it is to be
use Rattle.std.proofs.Common.{◌≡◌, ℕ, ◌<◌, true, cond, List, get_or, Ok, Result, Option, sym, ap, subst, ◌∙◌}
use Rattle.sets.specs.Sets.{has}
use Rattle.refusals.specs.declared.Fault.{Fault}
use Rattle.matter.specs.Layouts.{Kind}
use Rattle.frames.specs.declared.notes.Note.{Note}
use Rattle.frames.specs.Notes.{sound}
use Rattle.agreement.specs.Meanings.{Meaning}
use Rattle.agreement.specs.Carrying.{Hears}
use Rattle.agreement.specs.Votes.{Turn, notes_said}
use Rattle.agreement.specs.Flights.{State, carry, heard, Accepted, Answered, Saying, turn, telling}
use Rattle.agreement.specs.Flights as spec
use Rattle.agreement.specs.Lives.{state}
use Rattle.agreement.proofs.Room.{carry_passed, hears-room}
use Rattle.carriers.specs.declared.heard.Heard.{Heard}
use Rattle.flight.specs.declared.flight.Flight.{Flight}
use Rattle.votes.specs.declared.delivery.Delivery.{Delivery}
use Rattle.votes.specs.Deliveries.{delivery}
use Rattle.flight.specs.Ledgers.{ledger, state_of}
use Rattle.flight.specs.Speaking.{MaySpeak}
use Rattle.flight.specs.Voting.{VotedOn}
use Rattle.flight.proofs.Orders.{same_turn}

pub may_hear : (ks : List Kind) (s : State) (m₁ : Meaning) (i l a : ℕ) (t : Note) → Accepted ks s (carry i) → Hears s.carrier l a t m₁ → MaySpeak m₁ l t
may_hear ks s m₁ i l a t ok h = record {
  listener = subst (λ (n : ℕ). l < n) (sym h.fixed.n) h.listener;
  author = a;
  sound = subst (λ (n : ℕ). sound n a t ≡ true) (sym h.fixed.n) h.sound;
  room = hears-room s.carrier l a t m₁ 2 h (carry_passed ks s i ok).1;
}

same_ok : {x y : Option Delivery} → ◌≡◌ {A = Result (Option Delivery) Fault} (Ok x) (Ok y) → x ≡ y
same_ok {x} {y} q = cc

pub hearing_done : {C M : Type 0} (g : ℕ) (ks : List Kind) (meaning : C → Meaning) (x x₁ x' : Flight C M) (i : ℕ) (h : Heard) (d : Option Delivery) (r : Result (Option Delivery) Fault)
    → Accepted ks (state_of meaning x) (carry i) → Hears (meaning x.carrier) h.listener h.author h.note (meaning x₁.carrier) → x₁.table ≡ x.table → x₁.ordered ≡ x.ordered → x'.ordered ≡ x₁.ordered
    → r ≡ Ok d → VotedOn g meaning x₁ h.listener h.author h.note r x' → Answered g ks (state_of meaning x) (heard i h.listener h.author h.note (delivery d)) (state_of meaning x')
hearing_done g ks meaning x x₁ x' i h d r ok hears table os same is voted =
    let l = h.listener in
    let a = h.author in
    let t = h.note in
    let s = state_of meaning x in
    let u : turn (state_of meaning x₁) l a t ≡ turn s l a t =
    (λ j. turn (state (meaning x₁.carrier) (ledger (table j) x₁.ordered)) l a t) ∙ same_turn (meaning x.carrier) (meaning x₁.carrier) x.table x.ordered x₁.ordered l a t hears.fixed in
    let v = voted.voted in
    let told : d ≡ voted.told = same_ok {x = d} {y = voted.told} (sym is ∙ voted.answer) in (
      ok,
      record {
        between = meaning x₁.carrier;
        hears = hears;
        voted = record {
          says = subst (λ (z : Turn). Saying g (meaning x₁.carrier) l (notes_said z t.origin t.number t.content) (meaning x'.carrier)) u v.says;
          votes = λ b o j. v.votes b o j ∙ (λ k. cond (spec.here l t.origin t.number b o j) (u k).after ((ledger (table k) x.ordered).votes b o j));
          told = ap delivery told ∙ v.told ∙ ap (λ (z : Turn). telling z.delivers l t) u;
        };
        orders = λ b j. ap (λ (z : List ℕ). has (get_or z b 0) j) (same ∙ os);
        slips = record {
          out = λ b o j. voted.slips.out b o j ∙ (λ k. (ledger (table k) x.ordered).out b o j);
          booked = λ b o j. voted.slips.booked b o j ∙ (λ k. (ledger (table k) x.ordered).booked b o j);
        };
      },
    )
