-- What a call that goes over the numbers of a range answered, said of those numbers. Assumes nothing.
--   number_at, read_at   the number at a place of a run that counts up
--   at_each, at_one, at_place, at_those   what holds of a run's items holds of the numbers
--   all_over_Range       `all`: whether each number passes
--   found_over_Range     `find_map`: what is given of the first number of which anything is
--   first_over_Inclusive   `find`: the first number that passes, of a range with its end
use Rattle.std.proofs.Common.{◌≡◌, ℕ, ◌+◌, ◌-◌, ◌<◌, ◌≤◌, Bool, true, false, Decides, Some, None, Option, sym, refl, ap, ◌∙◌, subst, arith}
use Rattle.std.specs.Prelude.{MatchBool, MatchOption, IfSome, IsSomeAnd, IsTrue}
use Rattle.std.proofs.lemmas.Bool.{both_ways}
use Rattle.std.proofs.lemmas.Iterator.Adapters.{option_map_id}
use Rattle.std.specs.declared.ops.Range.{Range}
use Rattle.std.specs.declared.ops.RangeInclusive.{RangeInclusive}
use Rattle.std.specs.Range.{range_inclusive_start, range_inclusive_end, range_inclusive_exhausted}
use Rattle.std.proofs.iter.Yields.{nat_range_steps}
use Rattle.std.proofs.iter.runs.Sources.{range_runs, nat_range_inclusive_steps, inclusive_listed}
use Rattle.std.specs.Iterator.Runs.{Run, SomeRun, ItemsCountUp, AllItems, AnyItem, AllItemsBelow, AllItemsGive, AnyItemGives, IsFirstToGive, NoItemPasses, EndsAtFirstPassing, CallKeepsClosure}
use Rattle.std.specs.Fn.{CalledAt}
use denote.Param.Members.{Mut, Called}
use denote.Ref.{Bor}

-- ---- a run that counts up from a to b

module _ {S : Type 0} {steps : S → Option ℕ → S → Type 0} (p : Run steps) (a b : ℕ) (up : ItemsCountUp p a b) where
  number_at : (i : ℕ) → i < p.len → p.at i ≡ Some (a + i)
  number_at i l = sym (option_map_id (p.at i)) ∙ up.3 i l

  read_at : (k : ℕ) → a ≤ k → k < a + p.len → p.at (k - a) ≡ Some k
  read_at k l h = number_at (k - a) (omega arith) ∙ ap Some {x = a + (k - a)} {y = k} (omega arith)

  module _ (P : ℕ → Type 0) where
    at_each : p.whole ≡ true → AllItems p P → (k : ℕ) → a ≤ k → k < b → P k
    at_each w h k lo hi = subst (λ o. IfSome o P) (read_at k lo (omega (arith, up.1 w))) (h (k - a))

    at_place : (i : ℕ) → i < p.len → IsSomeAnd (p.at i) P → P (a + i)
    at_place i l h = subst (λ o. IsSomeAnd o P) (number_at i l) h

    at_one : AnyItem p P → (k : ℕ) × (a ≤ k) × (k < b) × P k
    at_one h = (a + h.0, omega arith, omega (arith, up.0, h.1), at_place h.0 h.1 h.2)

    at_those : (i : ℕ) → i < p.len → AllItemsBelow p i P → (k : ℕ) → a ≤ k → k < a + i → P k
    at_those i l h k lo hi = subst (λ o. IsSomeAnd o P) (read_at k lo (omega arith)) (h (k - a) (omega arith))

-- ---- a range without its end

counts : (p : Run nat_range_steps) (s : Range ℕ) → p.from ≡ s → ItemsCountUp p s.start s.end
counts p s e = subst (λ (t : Range ℕ). ItemsCountUp p t.start t.end) e (range_runs p p.seen)

module _ {F : Type 0} {g : Mut F (ℕ × Unit {0}) Bool} {f : F} (keeps : CallKeepsClosure g f) (s : Range ℕ) (T : ℕ → Bool) (computes : (k : ℕ) (b : Bool) → Called g f (k, tt) b f → b ≡ T k) where
  pub all_over_Range : (r : Bool) → SomeRun nat_range_steps s (λ p. MatchBool r (IsTrue p.whole × AllItemsGive p g f true) (AnyItemGives p g f false))
      → Decides r ((k : ℕ) → s.start ≤ k → k < s.end → T k ≡ true)
  all_over_Range true h = (
    λ _ k lo hi. sym (computes k true (at_each h.0 s.start s.end (counts h.0 s h.1) (λ x. Called g f (x, tt) true f) h.2.0 (h.2.1 keeps) k lo hi)),
    λ _. refl,
  )
  all_over_Range false h = (
    λ e. absurd (both_ways false refl e),
    λ q.
        let x = at_one h.0 s.start s.end (counts h.0 s h.1) (λ x. Called g f (x, tt) false f) (h.2 keeps) in
        absurd (both_ways (T x.0) (sym (computes x.0 false x.3)) (q x.0 x.1 x.2)),
  )

module _ {F B : Type 0} {g : Mut F (ℕ × Unit {0}) (Option B)} {f : F} (keeps : CallKeepsClosure g f) (s : Range ℕ) where
  pub found_over_Range : (r : Option B)
      → SomeRun nat_range_steps s (λ p. MatchOption r (IsTrue p.whole × AllItemsGive p g f None) (λ y. (i : ℕ) × (i < p.len) × (p.len ≡ i + 1) × IsFirstToGive p g f (Some y) None i))
      → MatchOption r ((k : ℕ) → s.start ≤ k → k < s.end → Called g f (k, tt) None f)
      (λ y. (k : ℕ) × (s.start ≤ k) × (k < s.end) × Called g f (k, tt) (Some y) f × ((j : ℕ) → s.start ≤ j → j < k → Called g f (j, tt) None f))
  found_over_Range None h = at_each h.0 s.start s.end (counts h.0 s h.1) (λ x. Called g f (x, tt) None f) h.2.0 (h.2.1 keeps)
  found_over_Range (Some y) h =
      let up = counts h.0 s h.1 in
      let i = h.2.0 in
      let x = h.2.3 keeps in (
        s.start + i,
        omega arith,
        omega (arith, up.0, h.2.1),
        at_place h.0 s.start s.end up (λ x. Called g f (x, tt) (Some y) f) i h.2.1 x.0,
        at_those h.0 s.start s.end up (λ x. Called g f (x, tt) None f) i h.2.1 x.1,
      )

-- ---- a range with its end

module _ {F : Type 0} {g : Mut F (Bor ℕ × Unit {0}) Bool} {f : F} (keeps : CallKeepsClosure g f) (s : RangeInclusive ℕ) (a b : ℕ) (low : range_inclusive_start s ≡ a) (high : range_inclusive_end s ≡ b) (whole : range_inclusive_exhausted s ≡ false) where
  counts_to : (p : Run nat_range_inclusive_steps) → p.from ≡ s → ItemsCountUp p a (b + 1)
  counts_to p e =
      let h = inclusive_listed p p.seen in
      let x : h.0 ≡ a = h.2 ∙ ap range_inclusive_start e ∙ low in
      let y : h.1 ≡ b + 1 = h.3 ∙ ap (λ (n : ℕ). n + 1) (ap range_inclusive_end e ∙ high) in
      subst (λ (n : ℕ). ItemsCountUp p n (b + 1)) x (subst (λ (n : ℕ). ItemsCountUp p h.0 n) y (h.4 (ap range_inclusive_exhausted e ∙ whole)).0)

  pub first_over_Inclusive : (r : Option ℕ)
      → SomeRun nat_range_inclusive_steps s (λ p. MatchOption r (IsTrue p.whole × NoItemPasses p g f) (EndsAtFirstPassing p g f))
      → MatchOption r ((k : ℕ) → a ≤ k → k < b + 1 → CalledAt g f k false f)
      (λ x. (a ≤ x) × (x < b + 1) × CalledAt g f x true f × ((k : ℕ) → a ≤ k → k < x → CalledAt g f k false f))
  first_over_Inclusive None h = at_each h.0 a (b + 1) (counts_to h.0 h.1) (λ x. CalledAt g f x false f) h.2.0 (h.2.1 keeps)
  first_over_Inclusive (Some x) h =
      let up = counts_to h.0 h.1 in
      let i = h.2.0 in
      let l : i < h.0.len = omega (arith, h.2.1) in
      let e : a + i ≡ x = at_place h.0 a (b + 1) up (λ y. y ≡ x) i l (subst (λ o. IsSomeAnd o (λ y. y ≡ x)) (sym h.2.2) refl) in
      let q = h.2.3 keeps in (
        omega (arith, e),
        omega (arith, e, up.0, h.2.1),
        q.0,
        λ k lo hi. at_those h.0 a (b + 1) up (λ y. CalledAt g f y false f) i l q.1 k lo (omega (arith, e)),
      )
