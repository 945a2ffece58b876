-- First votes: what one vote changes, and how many authors have one word. Assumes nothing.
--   is_true, is_some, some_present, present_some, same_some
--                    an optional word as a test and as an equation
--   first_keeps      a vote that is there stays
--   first_at         where a has none, its vote is taken
--   first_cases      a vote that is there now is this one, or was there
--   first_there      after its vote, a has one
--   Grows            votes that were there stay, and new ones are for w
--   backers_more     then no word has fewer backers ..
--   backers_other    .. and none but w has more
use Rattle.std.proofs.Common.{◌≡◌, ℕ, ◌≤◌, Bool, true, false, cond, not, ◌&&◌, eqb, ◌⊎◌, Some, None, Option, sym, refl, ap, ◌∙◌, inl, inr, ⊎_elim}
use Rattle.std.proofs.lemmas.Bool.{cases_Bool, cond-true, cond-false, eq-eqb, eqb-true, and_from, and_parts, and_right, not_from_true, not_from_false, true≢false}
use Rattle.sets.proofs.Passing.{count-passing_mono}
use Rattle.agreement.specs.Votes.{present, is, first, backers}

pub is_true : (o : Option ℕ) (w : ℕ) → is o w ≡ true → o ≡ Some w
is_true None w e = absurd (true≢false (sym e))
is_true (Some v) w e = ap (λ (z : ℕ). Some z) (eqb-true v w e)

pub is_some : (o : Option ℕ) (w : ℕ) → o ≡ Some w → is o w ≡ true
is_some o w e = ap (λ (z : Option ℕ). is z w) e ∙ eq-eqb w w refl

pub some_present : (o : Option ℕ) → present o ≡ true → (w : ℕ) × (o ≡ Some w)
some_present None e = absurd (true≢false (sym e))
some_present (Some w) e = (w, refl)

pub present_some : {o : Option ℕ} {w : ℕ} → o ≡ Some w → present o ≡ true
present_some e = ap present e

pub same_some : {o : Option ℕ} {v w : ℕ} → o ≡ Some v → o ≡ Some w → v ≡ w
same_some {o} {v} {w} p q = cc

-- ---- one vote

pub first_keeps : (a w : ℕ) (F : ℕ → Option ℕ) (b v : ℕ) → F b ≡ Some v → first a w F b ≡ Some v
unfolding first
first_keeps a w F b v e = cond-false _ _ _ (and_right (eqb a b) (not (present (F b))) (not_from_true (present (F b)) (ap present e))) ∙ e

pub first_at : (a w : ℕ) (F : ℕ → Option ℕ) → present (F a) ≡ false → first a w F a ≡ Some w
unfolding first
first_at a w F e = cond-true _ _ _ (and_from (eqb a a) (not (present (F a))) (eq-eqb a a refl) (not_from_false (present (F a)) e))

pub first_cases : (a w : ℕ) (F : ℕ → Option ℕ) (b v : ℕ) → first a w F b ≡ Some v → ((a ≡ b) × (w ≡ v)) ⊎ (F b ≡ Some v)
unfolding first
first_cases a w F b v e = ⊎_elim
    (λ (t : (eqb a b && not (present (F b))) ≡ true).
    inl (eqb-true a b (and_parts (eqb a b) _ t).0, same_some {o = Some w} refl (sym (cond-true _ (Some w) (F b) t) ∙ e)))
    (λ t. inr (sym (cond-false _ (Some w) (F b) t) ∙ e))
    (cases_Bool (eqb a b && not (present (F b))))

pub first_there : (a w : ℕ) (F : ℕ → Option ℕ) → present (first a w F a) ≡ true
first_there a w F = ⊎_elim
    (λ (t : present (F a) ≡ true). let r = some_present (F a) t in present_some (first_keeps a w F a r.0 r.1))
    (λ t. present_some (first_at a w F t))
    (cases_Bool (present (F a)))

-- ---- votes for w alone

pub record Grows (w : ℕ) (F G : ℕ → Option ℕ) : Type 0 where
  pub keeps : (b v : ℕ) → F b ≡ Some v → G b ≡ Some v
  pub new : (b v : ℕ) → G b ≡ Some v → (v ≡ w) ⊎ (F b ≡ Some v)

pub grows_same : (w : ℕ) (F : ℕ → Option ℕ) → Grows w F F
grows_same w F = record { keeps = λ b v e. e; new = λ b v e. inr e }

pub grows_first : (a w : ℕ) (F : ℕ → Option ℕ) → Grows w F (first a w F)
grows_first a w F = record {
  keeps = first_keeps a w F;
  new = λ b v e. ⊎_elim (λ (r : (a ≡ b) × (w ≡ v)). inl (sym r.1)) inr (first_cases a w F b v e);
}

pub grows_then : {w : ℕ} {F G H : ℕ → Option ℕ} → Grows w F G → Grows w G H → Grows w F H
grows_then x y = record {
  keeps = λ b v e. y.keeps b v (x.keeps b v e);
  new = λ b v e. ⊎_elim inl (x.new b v) (y.new b v e);
}

pub grows_if : (c : Bool) {w : ℕ} {F G : ℕ → Option ℕ} → Grows w F G → Grows w F (cond c G F)
grows_if true x = x
grows_if false {w} {F} x = grows_same w F

pub grows_present : {w : ℕ} {F G : ℕ → Option ℕ} → Grows w F G → (b : ℕ) → present (F b) ≡ true → present (G b) ≡ true
grows_present {F = F} x b e = let r = some_present (F b) e in present_some (x.keeps b r.0 r.1)

-- more have w, and of any other word as many as before
pub backers_more : (n : ℕ) {w : ℕ} (F G : ℕ → Option ℕ) (v : ℕ) → Grows w F G → backers n F v ≤ backers n G v
unfolding backers
backers_more n F G v x = count-passing_mono n (λ a. is (F a) v) (λ a. is (G a) v) (λ i l e. is_some (G i) v (x.keeps i v (is_true (F i) v e)))

pub backers_other : (n : ℕ) {w : ℕ} (F G : ℕ → Option ℕ) (v : ℕ) → Grows w F G → (v ≡ w → ⊥) → backers n G v ≤ backers n F v
unfolding backers
backers_other n F G v x ne =
    count-passing_mono n (λ a. is (G a) v) (λ a. is (F a) v)
    (λ i l e. ⊎_elim (λ (q : v ≡ _). absurd (ne q)) (λ q. is_some (F i) v q) (x.new i v (is_true (G i) v e)))
