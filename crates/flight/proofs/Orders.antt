-- An accepted order. Assumes nothing.
--   same_turn    a turn looks at n, f and the votes alone
--   may_order    who ordered may speak
--   order_done   the order is answered as it is to be
use Rattle.std.proofs.Common.{◌≡◌, ℕ, ◌<◌, true, cond, List, get_or, Result, Option, sym, ap, subst, ◌∙◌}
use Rattle.sets.specs.Sets.{has}
use Rattle.refusals.specs.declared.Fault.{Fault}
use Rattle.matter.specs.Layouts.{Kind}
use Rattle.frames.specs.declared.notes.Step.TheVariants.{Send}
use Rattle.frames.specs.declared.notes.Note.{Note}
use Rattle.frames.specs.Notes.{sound, note}
use Rattle.agreement.specs.Meanings.{Meaning}
use Rattle.agreement.specs.Carrying.{Fixed, Said}
use Rattle.agreement.specs.Votes.{Turn, hear, notes_said}
use Rattle.agreement.specs.Flights.{State, order, Accepted, Answered, Voted, Saying, turn, telling}
use Rattle.agreement.specs.Flights as spec
use Rattle.agreement.specs.Lives.{state}
use Rattle.agreement.proofs.Room.{order_passed, own_sound, said_room}
use Rattle.votes.specs.declared.table.Table.{Table}
use Rattle.flight.specs.declared.flight.Flight.{Flight}
use Rattle.votes.specs.declared.delivery.Delivery.{Delivery}
use Rattle.votes.specs.Deliveries.{delivery}
use Rattle.flight.specs.Ledgers.{ledger, state_of, order_event}
use Rattle.flight.specs.Marking.{Marked}
use Rattle.flight.specs.Speaking.{MaySpeak}
use Rattle.flight.specs.Voting.{VotedOn}

pub same_turn : (m m₁ : Meaning) (t : Table) (os os₁ : List ℕ) (l a : ℕ) (x : Note) → Fixed m m₁ → turn (state m₁ (ledger t os₁)) l a x ≡ turn (state m (ledger t os)) l a x
same_turn m m₁ t os os₁ l a x fx = λ i. hear (fx.n i) (fx.f i) l a x.content ((ledger t os).votes l x.origin x.number) x.step

pub may_order : (g : ℕ) (ks : List Kind) (s : State) (m₁ : Meaning) (c k w : ℕ) → Accepted ks s (order c k w) → Said g s.carrier c (note Send c k w) m₁ → MaySpeak m₁ c (note Send c k w)
may_order g ks s m₁ c k w ok said =
    let p = order_passed ks s c k w ok in
    record {
      listener = subst (λ (n : ℕ). c < n) (sym said.fixed.n) p.craft;
      author = c;
      sound = subst (λ (n : ℕ). sound n c (note Send c k w) ≡ true) (sym said.fixed.n) (own_sound s.carrier.n c k w p.craft p.number);
      room = said_room g s.carrier c (note Send c k w) m₁ 2 said p.spare;
    }

pub order_done : {C M : Type 0} (g : ℕ) (ks : List Kind) (meaning : C → Meaning) (x x₁ x' : Flight C M) (c k w : ℕ) (r : Result (Option Delivery) Fault)
    → Accepted ks (state_of meaning x) (order c k w) → Said g (meaning x.carrier) c (note Send c k w) (meaning x₁.carrier) → x₁.table ≡ x.table → Marked x.ordered c k x₁.ordered → x'.ordered ≡ x₁.ordered
    → VotedOn g meaning x₁ c c (note Send c k w) r x' → Answered g ks (state_of meaning x) (order_event c k w r) (state_of meaning x')
order_done g ks meaning x x₁ x' c k w r ok said table marked same voted =
    let t = note Send c k w in
    let s = state_of meaning x in
    let u : turn (state_of meaning x₁) c c t ≡ turn s c c t =
    (λ i. turn (state (meaning x₁.carrier) (ledger (table i) x₁.ordered)) c c t) ∙ same_turn (meaning x.carrier) (meaning x₁.carrier) x.table x.ordered x₁.ordered c c t said.fixed in
    let v = voted.voted in
    let done : spec.Ordering g s c k w (delivery voted.told) (state_of meaning x') = record {
      between = meaning x₁.carrier;
      said = said;
      voted = record {
        says = subst (λ (z : Turn). Saying g (meaning x₁.carrier) c (notes_said z c k w) (meaning x'.carrier)) u v.says;
        votes = λ b o j. v.votes b o j ∙ (λ i. cond (spec.here c c k b o j) (u i).after ((ledger (table i) x.ordered).votes b o j));
        told = v.told ∙ ap (λ (z : Turn). telling z.delivers c t) u;
      };
      orders = λ b j. ap (λ (z : List ℕ). has (get_or z b 0) j) same ∙ marked b j;
      slips = record {
        out = λ b o j. voted.slips.out b o j ∙ (λ i. (ledger (table i) x.ordered).out b o j);
        booked = λ b o j. voted.slips.booked b o j ∙ (λ i. (ledger (table i) x.ordered).booked b o j);
      };
    } in
    subst (λ (z : Result (Option Delivery) Fault). Answered g ks s (order_event c k w z) (state_of meaning x')) (sym voted.answer) (ok, done)
