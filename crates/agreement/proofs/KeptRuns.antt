-- What every call keeps. Assumes nothing.
--   Kept           votes, deliveries and Sends as above, and whoever is astray meddled
--   idle           calls by which nothing is heard keep it
--   same_carrier   so do calls that leave the carrier as it is
--   source_of      a sound Send is of its author's own order
--   heard-step     so does a carry by which a note is heard
--   order_step     so does an order
--   booked_word    what a book wrote is the delivered word
--   kept_step      so does every call
use Rattle.std.proofs.Common.{◌≡◌, ℕ, ◌+◌, ◌≤◌, Bool, true, false, not, eqb, ltb, leb, ◌⊎◌, List, ◌∷◌, length, Some, Option, sym, refl, ap, ◌∙◌, inl, inr, ⊎_elim, arith}
use Rattle.std.proofs.lemmas.Bool.{eqb-true, ltb-false, and_parts, or_cases, not-true, both_ways, true≢false}
use Rattle.sets.specs.Sets.{bit, In, count, adding, only}
use Rattle.sets.proofs.Members.{union_within_left, union_in, only_in}
use Rattle.sets.proofs.Counts.{adding_most}
use Rattle.refusals.proofs.FirstCause.{clear}
use Rattle.matter.specs.Layouts.{Kind}
use Rattle.frames.specs.declared.notes.Step.TheVariants.{Send, Echo}
use Rattle.frames.specs.declared.notes.Note.{Note}
use Rattle.frames.specs.Notes.{last_number, is_send, sound, note}
use Rattle.frames.specs.Lines.{line_length, line_at}
use Rattle.frames.proofs.LineLaws.{placed_line, line_word}
use Rattle.agreement.specs.Meanings.{Meaning, Lawful}
use Rattle.agreement.specs.Carrying.{Adds, Silent, Fixed}
use Rattle.agreement.specs.Flights.{State, Ledger, Delivery, Event, ordered, moved, heard, meddled, collected, booked, returned, refused, order, book, causes, Accepted, Answered, Ordering, Hearing, Booking, SameVotes, SameOrders}
use Rattle.agreement.specs.Runs.{Tells, Books, Orders, Misleads, Astray}
use Rattle.agreement.proofs.Room.{order_passed, meddle_few}
use Rattle.agreement.proofs.HeardNotes.{adds_cases, adds_keeps, adds_it, Own}
use Rattle.agreement.proofs.Entries.{steps, echo≢send, ready≢send}
use Rattle.agreement.proofs.KeptVotes.{VotesKept, DeliveriesKept, votes_idle, deliveries_idle, votes_turn, deliveries_turn, turn_spoken}
use Rattle.agreement.proofs.KeptSends.{SendsKept, sends_idle, sends_order}

pub record Kept (es : List Event) (s : State) : Type 0 where
  pub votes : VotesKept s
  pub deliveries : DeliveriesKept es s
  pub sends : SendsKept es s
  -- the craft astray are those that meddled
  pub astray : (i : ℕ) → In i s.carrier.astray → Astray es i

-- ---- calls by which nothing is heard

module _ (es : List Event) (e : Event) (s s' : State) (fx : Fixed s.carrier s'.carrier) (silent : Silent s.carrier s'.carrier)
    (few : count s'.carrier.astray ≤ s'.carrier.f) (loyal : (i : ℕ) → bit s'.carrier.astray i ≡ 0 → bit s.carrier.astray i ≡ 0)
    (votes : SameVotes s s') (orders : SameOrders s s')
    (no_Tells : (p o k w : ℕ) → Tells e p o k w → ⊥) (books : (p o k w : ℕ) → Books e p o k w → (s.ledger.votes p o k).delivered ≡ Some w)
    (no-orders : (o k w : ℕ) → Orders e o k w → ⊥)
    (misled : (i : ℕ) → In i s'.carrier.astray → Misleads e i ⊎ In i s.carrier.astray) where
  idle : Kept es s → Kept (e ∷ es) s'
  idle h = record {
    votes = votes_idle s s' fx silent votes few loyal h.votes;
    deliveries = deliveries_idle es e s s' votes no_Tells books h.deliveries;
    sends = sends_idle es e s s' (λ o k w x. silent.at o o (note Send o k w) ∙ x) (λ o k w x. sym (silent.at o o (note Send o k w)) ∙ x) orders no-orders h.sends;
    astray = λ i x. ⊎_elim (λ (y : Misleads e i). inl y) (λ y. inr (h.astray i y)) (misled i x);
  }

-- a call that leaves the carrier
same_carrier : (es : List Event) (e : Event) (s s' : State) → s'.carrier ≡ s.carrier → SameVotes s s' → SameOrders s s'
    → ((p o k w : ℕ) → Tells e p o k w → ⊥) → ((p o k w : ℕ) → Books e p o k w → (s.ledger.votes p o k).delivered ≡ Some w) → ((o k w : ℕ) → Orders e o k w → ⊥)
    → Kept es s → Kept (e ∷ es) s'
same_carrier es e s s' q votes orders no_Tells books no-orders h =
    idle es e s s'
    (record { n = ap (λ (i : Meaning). i.n) q; f = ap (λ (i : Meaning). i.f) q; chart = ap (λ (i : Meaning). i.chart) q })
    (record { at = λ l a t. ap (λ (i : Meaning). i.heard l a t) q })
    (omega (arith, h.votes.few, ap (λ (i : Meaning). count i.astray) q, ap (λ (i : Meaning). i.f) q))
    (λ i x. ap (λ (z : Meaning). bit z.astray i) (sym q) ∙ x)
    votes orders no_Tells books no-orders (λ i x. inr (ap (λ (z : Meaning). bit z.astray i) (sym q) ∙ x)) h

same_votes : (s s' : State) → s'.ledger ≡ s.ledger → SameVotes s s'
same_votes s s' q c o k = ap (λ (b : Ledger). b.votes c o k) q

same_orders : (s s' : State) → s'.ledger ≡ s.ledger → SameOrders s s'
same_orders s s' q c k = ap (λ (b : Ledger). b.ordered c k) q

-- ---- a meddler is one of at most f

loyal_before : (a c i : ℕ) → bit (adding c a) i ≡ 0 → bit a i ≡ 0
loyal_before a c i e = omega (arith, union_within_left a (only c) i, e)

misled_by : (a c i : ℕ) → In i (adding c a) → (c ≡ i) ⊎ In i a
misled_by a c i e = ⊎_elim inr (λ h. inl (only_in c i h)) (union_in a (only c) i e)

-- ---- calls by which a note is heard

-- no other craft's Send is said
module _ (s s' : State) (m₁ : Meaning) (l a : ℕ) (t : Note) (adds : Adds s.carrier l a t m₁)
    (e r : Bool) (only : (p c : ℕ) (u : Note) → s'.carrier.heard p c u ≡ true → (m₁.heard p c u ≡ true) ⊎ ((l ≡ p) × (l ≡ c) × Own e r t.origin t.number t.content u)) where
  sends_only : (o k w : ℕ) → s'.carrier.heard o o (note Send o k w) ≡ true → (s.carrier.heard o o (note Send o k w) ≡ true) ⊎ ((l ≡ o) × (a ≡ o) × (t ≡ note Send o k w))
  sends_only o k w x = ⊎_elim
      (λ (i : m₁.heard o o (note Send o k w) ≡ true). adds_cases adds o o (note Send o k w) i)
      (λ i. ⊎_elim
      (λ (j : (e ≡ true) × (note Echo t.origin t.number t.content ≡ note Send o k w)). absurd (echo≢send (steps j.1)))
      (λ j. absurd (ready≢send (steps j.1)))
      i.2)
      (only o o (note Send o k w) x)

-- a sound Send is of its author's order
pub source_of : (n a : ℕ) (t : Note) → sound n a t ≡ true → is_send t.step ≡ true → a ≡ t.origin
source_of n a t h e =
    let x = (and_parts (leb t.number last_number) _ (and_parts (ltb t.origin n) _ h).1).1 in
    ⊎_elim
    (λ (y : not (is_send t.step) ≡ true). absurd (both_ways (is_send t.step) (not-true (is_send t.step) y) e))
    (λ y. sym (eqb-true t.origin a y))
    (or_cases (not (is_send t.step)) (eqb t.origin a) x)

heard-step : (g : ℕ) (es : List Event) (s s' : State) (i l a : ℕ) (t : Note) (d : Option Delivery) → Hearing g s l a t d s' → Lawful s'.carrier → Kept es s → Kept (heard i l a t d ∷ es) s'
heard-step g es s s' i l a t d x law h =
    let b = x.between in
    let y = x.hears in
    let apart : is_send t.step ≡ false → a ≡ l → ⊥ = λ _ q. y.apart (sym q) in
    let source = source_of s.carrier.n a t y.sound in
    let sp = turn_spoken g s s' b l a t d y.fixed y.astray y.heard apart source x.voted in
    record {
      votes = votes_turn g s s' b l a t d y.fixed y.astray y.heard apart source x.voted h.votes law;
      deliveries = deliveries_turn g s s' b l a t d y.fixed y.astray y.heard apart source x.voted es (heard i l a t d)
          (λ p o k w z. z) (λ p o k w z. z) (λ p o k w z. z) h.deliveries;
      sends = sends_idle es (heard i l a t d) s s'
          (λ o k w z. sp.keeps o o (note Send o k w) (adds_keeps y.heard o o (note Send o k w) z))
          (λ o k w z. ⊎_elim (λ (j : s.carrier.heard o o (note Send o k w) ≡ true). j) (λ j. absurd (y.apart (j.0 ∙ sym j.1)))
          (sends_only s s' b l a t y.heard _ _ sp.only o k w z))
          x.orders (λ o k w z. z) h.sends;
      astray = λ j z. inr (h.astray j (ap (λ (u : ℕ). bit u j) (sym (sp.astray ∙ y.astray)) ∙ z));
    }

order_step : (g : ℕ) (ks : List Kind) (es : List Event) (s s' : State) (c k w : ℕ) (d : Option Delivery)
    → Accepted ks s (order c k w) → Ordering g s c k w d s' → Lawful s'.carrier → Kept es s → Kept (ordered c k w d ∷ es) s'
order_step g ks es s s' c k w d ok x law h =
    let b = x.between in
    let y = x.said in
    let t = note Send c k w in
    let apart : is_send Send ≡ false → c ≡ c → ⊥ = λ q _. true≢false q in
    let source : is_send Send ≡ true → c ≡ c = λ _. refl in
    let sp = turn_spoken g s s' b c c t d y.fixed y.astray y.heard apart source x.voted in
    let free = (order_passed ks s c k w ok).new in
    record {
      votes = votes_turn g s s' b c c t d y.fixed y.astray y.heard apart source x.voted h.votes law;
      deliveries = deliveries_turn g s s' b c c t d y.fixed y.astray y.heard apart source x.voted es (ordered c k w d)
          (λ p o j v z. z) (λ p o j v z. z) (λ p o j v z. z) h.deliveries;
      sends = sends_order es s s' c k w d free x.orders
          (λ o j v z. sp.keeps o o (note Send o j v) (adds_keeps y.heard o o (note Send o j v) z))
          (sp.keeps c c t (adds_it y.heard))
          (λ o j v z. ⊎_elim inl
          (λ (q : (c ≡ o) × (c ≡ o) × (t ≡ note Send o j v)). inr (q.0, ap (λ (u : Note). u.number) q.2, ap (λ (u : Note). u.content) q.2))
          (sends_only s s' b c c t y.heard _ _ sp.only o j v z))
          h.sends;
      astray = λ j z. inr (h.astray j (ap (λ (u : ℕ). bit u j) (sym (sp.astray ∙ y.astray)) ∙ z));
    }

-- ---- every call

-- the line that a book wrote is read off its buffer, and tells the delivered word
booked_word : (ks : List Kind) (s s' : State) (c o k place : ℕ) (buffer after : List ℕ) (p b j v : ℕ) → Accepted ks s (book c o k place buffer)
    → Booking s c o k place buffer after s' → Books (booked c o k place buffer after) p b j v → (s.ledger.votes p b j).delivered ≡ Some v
booked_word ks s s' c o k place buffer after p b j v ok x q =
    let room = ltb-false (length buffer) (place + line_length) (clear (causes ks s (book c o k place buffer)) ok).1.0 in
    let stands = ap (λ (t : List ℕ). line_at t place) x.written ∙ placed_line buffer place c o k x.word room in
    let word = line_word c o k x.word p b j v x.fits q.3 (sym stands ∙ q.4) in
    (λ i. (s.ledger.votes (sym q.0 i) (sym q.1 i) (sym q.2 i)).delivered) ∙ x.delivered ∙ ap (λ (z : ℕ). Some z) word

pub kept_step : (g : ℕ) (ks : List Kind) (es : List Event) (s s' : State) (e : Event) → Answered g ks s e s' → Lawful s'.carrier → Kept es s → Kept (e ∷ es) s'
kept_step g ks es s s' (ordered c k w d) x law h = order_step g ks es s s' c k w d x.0 x.1 law h
kept_step g ks es s s' (moved i) x law h =
    let q = x.1.quiet in
    idle es (moved i) s s' q.fixed q.heard (omega (arith, h.votes.few, ap count q.astray, q.fixed.f))
    (λ j e. ap (λ (z : ℕ). bit z j) (sym q.astray) ∙ e) (same_votes s s' x.1.ledger) (same_orders s s' x.1.ledger)
    (λ p o k w z. z) (λ p o k w z. absurd z) (λ o k w z. z) (λ j e. inr (ap (λ (z : ℕ). bit z j) (sym q.astray) ∙ e)) h
kept_step g ks es s s' (heard i l a t d) x law h = heard-step g es s s' i l a t d x.1 law h
kept_step g ks es s s' (meddled c to u) x law h =
    let q = x.1.meddled in
    let few = meddle_few ks s c to u x.0 in
    idle es (meddled c to u) s s' q.fixed q.heard
    (omega (arith, adding_most c s.carrier.astray s.carrier.f h.votes.few few, ap count q.astray, q.fixed.f))
    (λ j e. loyal_before s.carrier.astray c j (ap (λ (z : ℕ). bit z j) (sym q.astray) ∙ e)) (same_votes s s' x.1.ledger) (same_orders s s' x.1.ledger)
    (λ p o k w z. z) (λ p o k w z. absurd z) (λ o k w z. z)
    (λ j e. misled_by s.carrier.astray c j (ap (λ (z : ℕ). bit z j) (sym q.astray) ∙ e)) h
kept_step g ks es s s' (collected c o k) x law h =
    same_carrier es (collected c o k) s s' x.1.carrier x.1.votes x.1.orders (λ p b j w z. z) (λ p b j w z. absurd z) (λ b j w z. z) h
kept_step g ks es s s' (booked c o k place buffer after) x law h =
    same_carrier es (booked c o k place buffer after) s s' x.1.carrier x.1.votes x.1.orders (λ p b j v z. z)
    (λ p b j v z. booked_word ks s s' c o k place buffer after p b j v x.0 x.1 z)
    (λ b j v z. z) h
kept_step g ks es s s' (returned c o k) x law h =
    same_carrier es (returned c o k) s s' x.1.carrier x.1.votes x.1.orders (λ p b j w z. z) (λ p b j w z. absurd z) (λ b j w z. z) h
kept_step g ks es s s' (refused c v) x law h =
    same_carrier es (refused c v) s s' (ap (λ (z : State). z.carrier) x.1) (λ b o k. ap (λ (z : State). z.ledger.votes b o k) x.1) (λ b k. ap (λ (z : State). z.ledger.ordered b k) x.1)
    (λ p b j w z. z) (λ p b j w z. absurd z) (λ b j w z. z) h
