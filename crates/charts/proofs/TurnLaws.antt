-- Which of the causes that are tested in turn is answered. Assumes nothing.
--   turn_none   where none is answered, none of any number's is
--   none_turn   where none of any number's is answered, none is
--   turn_at     the turn at i answers, and those before it do not: that is the answer
--   turn_some   an answer is that of one number, and those before it have none
use Rattle.std.proofs.Common.{◌≡◌, ℕ, zero, suc, ◌<◌, ◌⊎◌, List, Some, None, Option, sym, refl, ap, ◌∙◌, inl, inr, ⊎_elim, arith}
use Rattle.std.proofs.lemmas.Bool.{cases_eq}
use Rattle.refusals.specs.Refusals.{Cause, Told, refusal}
use Rattle.refusals.proofs.FirstCause.{refused_none, refused_front, refused_back}
use Rattle.charts.specs.InTurn.{in_turn}

-- ---- an answer or none

pub some_none : {A : Type 0} (a : A) (o : Option A) → o ≡ Some a → o ≡ None → ⊥
some_none a o p q = let z : ◌≡◌ {A = ℕ} 0 1 = cc in omega arith

pub cases_option : {A : Type 0} (o : Option A) → (o ≡ None) ⊎ ((a : A) × (o ≡ Some a))
cases_option None = inl refl
cases_option (Some a) = inr (a, refl)

-- ---- in turn

module _ (g : ℕ → List Cause) where
  pub turn_none : (k i : ℕ) → refusal (in_turn g k) ≡ None → i < k → refusal (g i) ≡ None
  unfolding in_turn
  turn_none zero i e l = absurd (omega arith)
  turn_none (suc k) i e l =
      let p = refused_none (in_turn g k) (g k) e in
      ⊎_elim (λ (q : i ≡ k). ap (λ (x : ℕ). refusal (g x)) q ∙ p.1) (λ ne. turn_none k i p.0 (omega arith)) (cases_eq i k)

  pub none_turn : (k : ℕ) → ((i : ℕ) → i < k → refusal (g i) ≡ None) → refusal (in_turn g k) ≡ None
  unfolding in_turn
  none_turn zero h = refl
  none_turn (suc k) h = refused_back (in_turn g k) (g k) (none_turn k (λ i l. h i (omega arith))) ∙ h k (omega arith)

  pub turn_at : (k i : ℕ) (t : Told) → i < k → refusal (in_turn g i) ≡ None → refusal (g i) ≡ Some t → refusal (in_turn g k) ≡ Some t
  unfolding in_turn
  turn_at zero i t l p q = absurd (omega arith)
  turn_at (suc k) i t l p q = ⊎_elim
      (λ (e : i ≡ k).
      refused_back (in_turn g k) (g k) (ap (λ (x : ℕ). refusal (in_turn g x)) (sym e) ∙ p) ∙ ap (λ (x : ℕ). refusal (g x)) (sym e) ∙ q)
      (λ ne. refused_front (in_turn g k) (g k) t (turn_at k i t (omega arith) p q)) (cases_eq i k)

  pub turn_some : (k : ℕ) (t : Told) → refusal (in_turn g k) ≡ Some t
      → (i : ℕ) × (i < k) × (refusal (g i) ≡ Some t) × ((j : ℕ) → j < i → refusal (g j) ≡ None)
  unfolding in_turn
  turn_some zero t e = absurd (some_none t None e refl)
  turn_some (suc k) t e = ⊎_elim
      (λ (p : refusal (in_turn g k) ≡ None). (k, omega arith, sym (refused_back (in_turn g k) (g k) p) ∙ e, λ j l. turn_none k j p l))
      (λ p.
      let same : Some p.0 ≡ Some t = sym (refused_front (in_turn g k) (g k) p.0 p.1) ∙ e in
      let r = turn_some k t (p.1 ∙ same) in
      (r.0, omega (arith, r.1), r.2, r.3))
      (cases_option (refusal (in_turn g k)))
