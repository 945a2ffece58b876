-- What every call keeps of the Sends said. Assumes nothing.
--   SendsKept      a craft says Send of what it ordered, once for each number, and of nothing else
--   sends_idle     a call that orders nothing keeps that
--   sends_order    an order under a number that the craft has not used keeps it
use Rattle.std.proofs.Common.{◌≡◌, ℕ, true, false, ◌&&◌, ◌||◌, eqb, ◌⊎◌, List, ◌∷◌, Option, sym, ap, ◌∙◌, subst, inl, inr, ⊎_elim}
use Rattle.std.proofs.lemmas.Bool.{and_from, eq-eqb, or_left, or_right, both_ways}
use Rattle.frames.specs.declared.notes.Step.TheVariants.{Send}
use Rattle.frames.specs.declared.notes.Note.{Note}
use Rattle.frames.specs.Notes.{note}
use Rattle.agreement.specs.Flights.{State, Delivery, Event, ordered, SameOrders}
use Rattle.agreement.specs.Runs.{Orders, Ordered}

-- a craft says Send of what it ordered, once for each number, and of nothing else
pub record SendsKept (es : List Event) (s : State) : Type 0 where
  pub marked : (o k w : ℕ) → s.carrier.heard o o (note Send o k w) ≡ true → s.ledger.ordered o k ≡ true
  pub once : (o k w v : ℕ) → s.carrier.heard o o (note Send o k w) ≡ true → s.carrier.heard o o (note Send o k v) ≡ true → w ≡ v
  pub ordered : (o k w : ℕ) → s.carrier.heard o o (note Send o k w) ≡ true → Ordered es o k w
  pub sent : (o k w : ℕ) → Ordered es o k w → s.carrier.heard o o (note Send o k w) ≡ true

-- a call that orders nothing
pub sends_idle : (es : List Event) (e : Event) (s s' : State)
    → ((o k w : ℕ) → s.carrier.heard o o (note Send o k w) ≡ true → s'.carrier.heard o o (note Send o k w) ≡ true)
    → ((o k w : ℕ) → s'.carrier.heard o o (note Send o k w) ≡ true → s.carrier.heard o o (note Send o k w) ≡ true)
    → SameOrders s s' → ((o k w : ℕ) → Orders e o k w → ⊥) → SendsKept es s → SendsKept (e ∷ es) s'
sends_idle es e s s' keeps only same none h = record {
  marked = λ o k w x. same o k ∙ h.marked o k w (only o k w x);
  once = λ o k w v x y. h.once o k w v (only o k w x) (only o k v y);
  ordered = λ o k w x. inr (h.ordered o k w (only o k w x));
  sent = λ o k w. ⊎_elim (λ (x : Orders e o k w). absurd (none o k w x)) (λ x. keeps o k w (h.sent o k w x));
}

-- craft c orders w under the number k, which it has not used
pub sends_order : (es : List Event) (s s' : State) (c k w : ℕ) (d : Option Delivery)
    → s.ledger.ordered c k ≡ false
    → ((b j : ℕ) → s'.ledger.ordered b j ≡ (s.ledger.ordered b j || (eqb c b && eqb k j)))
    → ((o j v : ℕ) → s.carrier.heard o o (note Send o j v) ≡ true → s'.carrier.heard o o (note Send o j v) ≡ true)
    → s'.carrier.heard c c (note Send c k w) ≡ true
    → ((o j v : ℕ) → s'.carrier.heard o o (note Send o j v) ≡ true → (s.carrier.heard o o (note Send o j v) ≡ true) ⊎ ((c ≡ o) × (k ≡ j) × (w ≡ v)))
    → SendsKept es s → SendsKept (ordered c k w d ∷ es) s'
sends_order es s s' c k w d free marks keeps it only h =
    let unused : (o j v : ℕ) → c ≡ o → k ≡ j → s.carrier.heard o o (note Send o j v) ≡ true → ⊥ = λ o j v x y e.
    both_ways (s.ledger.ordered c k) free (ap (λ (z : ℕ). s.ledger.ordered z k) x ∙ ap (λ (z : ℕ). s.ledger.ordered o z) y ∙ h.marked o j v e) in
    record {
      marked = λ o j v x. marks o j ∙ ⊎_elim
          (λ (y : s.carrier.heard o o (note Send o j v) ≡ true). or_left (s.ledger.ordered o j) _ (h.marked o j v y))
          (λ y. or_right (s.ledger.ordered o j) _ (and_from (eqb c o) (eqb k j) (eq-eqb c o y.0) (eq-eqb k j y.1)))
          (only o j v x);
      once = λ o j v u x y. ⊎_elim
          (λ (i : s.carrier.heard o o (note Send o j v) ≡ true). ⊎_elim
          (λ (z : s.carrier.heard o o (note Send o j u) ≡ true). h.once o j v u i z)
          (λ z. absurd (unused o j v z.0 z.1 i))
          (only o j u y))
          (λ i. ⊎_elim
          (λ (z : s.carrier.heard o o (note Send o j u) ≡ true). absurd (unused o j u i.0 i.1 z))
          (λ z. sym i.2 ∙ z.2)
          (only o j u y))
          (only o j v x);
      ordered = λ o j v x. ⊎_elim (λ (y : s.carrier.heard o o (note Send o j v) ≡ true). inr (h.ordered o j v y)) (λ y. inl y) (only o j v x);
      sent = λ o j v. ⊎_elim
          (λ (x : (c ≡ o) × (k ≡ j) × (w ≡ v)). subst (λ (z : Note). s'.carrier.heard o o z ≡ true) (λ i. note Send (x.0 i) (x.1 i) (x.2 i)) (subst (λ (z : ℕ). s'.carrier.heard z z (note Send c k w) ≡ true) x.0 it))
          (λ x. keeps o j v (h.sent o j v x));
    }
