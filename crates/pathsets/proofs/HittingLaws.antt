-- Hitting sets: the test, its meaning, and the search by recursion. Assumes nothing.
--   hittable_decides   the sets that are tried are enough
--   with_none        with no craft chosen yet, the search decides whether the family can be hit
--   no_members       a set that counts nothing is empty
--   hit_met, hit_stuck, hit_back, hit_on   the turns of the search: all met; none allowed; a craft chosen, and back
--   turn_member, turns_done   the turns at the members of a set: each is a member, and in the end each had a turn
--   unmet            the first set that has no craft of c; if there is none, c hits all
--   heard_empty      a family with the empty set cannot be hit
--   none_hit         no craft at all hit no set
use Rattle.std.proofs.Common.{◌≡◌, ℕ, suc, ◌+◌, ◌^◌, ◌<◌, ◌≤◌, Bool, true, false, ◌&&◌, not, leb, List, [], ◌∷◌, ◌++◌, Decides, Option, None, Some, MatchOption, sym, refl, ap, ◌∙◌, subst, ⊎_elim, arith}
use lib.Bits.{and_le_r, or_zero_r, or_zero_l}
use Rattle.std.specs.List.{ContainsAt as Has, AllByRecursion, find}
use Rattle.std.proofs.ByRecursion.{all-has, All-weaker, Decides-by_and, has_append_right}
use Rattle.std.proofs.lemmas.List.{append-nil}
use Rattle.std.proofs.lemmas.Bool.Decides.{Decides-below_or, Decides-and}
use Rattle.std.proofs.lemmas.Bool.{leb-true, le-leb, eqb-true, eqb-false, ne_eqb, not-true, not-false, not_from_false, cases_Bool, cases_lt, cases_eq}
use Rattle.sets.specs.Sets.{labels, bit, In, Within, only, union, shared, less, meeting, count, members_of}
use Rattle.sets.proofs.Bits.{bit-zero, bit_le, bit-shared, bit-union, bit-less, bit-only, bit-only_other, same_bits, union_assoc}
use Rattle.sets.proofs.Members.{has_in, in_has, in_below, in_shared, shared_member, shared_positive, within_in, union_within_left, union_within_right, shared_within_left}
use Rattle.sets.proofs.Each.{each_all, each-has}
use Rattle.sets.proofs.Counts.{count-zero, count-only, count-union, count_within, count-less-only}
use Rattle.pathsets.specs.Hitting.{Hits, hits, all_of, tried, hittable, Hittable, HittableWith}
use Rattle.pathsets.proofs.Families.{has_here, has_later}

-- ---- the test

meets_tells : (s h : ℕ) → Decides (meeting s h) (0 < shared s h)
meets_tells s h = (
  λ e. let ne = eqb-false (shared s h) 0 (not-true _ e) in omega arith,
  λ l. not_from_false _ (ne_eqb (shared s h) 0 (λ e. omega arith)),
)

pub meets_all : (s h : ℕ) → meeting s h ≡ true → 0 < shared s h
meets_all s h = (meets_tells s h).0

pub meets_none : (s h : ℕ) → meeting s h ≡ false → shared s h ≡ 0
meets_none s h e = eqb-true (shared s h) 0 (not-false _ e)

each_tells : (ss : List ℕ) (k h : ℕ) → Decides (leb (count h) k && hits h ss) ((count h ≤ k) × Hits h ss)
each_tells ss k h = Decides-and _ _ (leb-true (count h) k, le-leb (count h) k)
    (Decides-by_and (λ s. meeting s h) (λ s. 0 < shared s h) (hits h) (λ s. meets_tells s h) refl (λ _ _. refl) ss)

tried-tells : (k : ℕ) (ss : List ℕ) (w : ℕ) → Decides (tried k ss w) ((h : ℕ) × (h < w) × ((count h ≤ k) × Hits h ss))
unfolding tried
tried-tells k ss w =
    Decides-below_or (λ h. leb (count h) k && hits h ss) (λ h. (count h ≤ k) × Hits h ss) (tried k ss) (each_tells ss k) refl (λ _. refl) w

-- only the craft of the family matter
narrowed : (h m : ℕ) (ss : List ℕ) → AllByRecursion (λ s. Within s m) ss → Hits h ss → Hits (shared h m) ss
narrowed h m [] b a = tt
narrowed h m (s ∷ ss) b a =
    let r = shared_member s h a.0 in
    let i = r.0 in
    (shared_positive s (shared h m) i r.1 (in_shared h m i r.2 (within_in s m i b.0 r.1)), narrowed h m ss b.1 a.1)

within_all : (ss : List ℕ) → AllByRecursion (λ s. Within s (all_of ss)) ss
within_all [] = tt
within_all (s ∷ ss) = (
  union_within_left s (all_of ss),
  All-weaker (λ t. Within t (all_of ss)) (λ t. Within t (union s (all_of ss))) (λ t h i. omega (arith, h i, union_within_right s (all_of ss) i)) ss (within_all ss),
)

pub hittable_decides : (k : ℕ) (ss : List ℕ) → Decides (hittable k ss) (Hittable k ss)
unfolding hittable
hittable_decides k ss = (
  λ e. let r = (tried-tells k ss (suc (all_of ss))).0 e in (r.0, r.2.0, r.2.1),
  λ r. let g = shared r.0 (all_of ss) in
      (tried-tells k ss (suc (all_of ss))).1 (
        g,
        omega (arith, and_le_r r.0 (all_of ss)),
        (omega (arith, r.1, count_within g r.0 (shared_within_left r.0 (all_of ss))), narrowed r.0 (all_of ss) ss (within_all ss) r.2),
      ),
)

-- ---- the search

pub with_none : (ss : List ℕ) (k : ℕ) (r : Bool) → Decides r (HittableWith ss 0 k) → Decides r (Hittable k ss)
with_none ss k r d = (
  λ e. let w = d.0 e in (w.0, w.1, subst (λ (h : ℕ). Hits h ss) (or_zero_l w.0) w.2),
  λ w. d.1 (w.0, w.1, subst (λ (h : ℕ). Hits h ss) (sym (or_zero_l w.0)) w.2),
)

pub hit_met : (ss : List ℕ) (c k : ℕ) → Hits c ss → HittableWith ss c k
hit_met ss c k h = (0, omega (arith, count-zero), rw (or_zero_r c) h)

pub no_members : (h : ℕ) → count h ≤ 0 → h ≡ 0
no_members h l = same_bits h 0 (λ i. ⊎_elim (λ (p : 0 < bit h i). absurd (omega (arith, count-less-only h i (omega (arith, bit_le h i))))) (λ z. omega (arith, bit-zero i)) (cases_lt 0 (bit h i)))

pub hit_stuck : (ss : List ℕ) (s c : ℕ) → Has ss s → shared s c ≡ 0 → HittableWith ss c 0 → ⊥
hit_stuck ss s c m e (h, l, a) =
    let z : union c h ≡ c = ap (λ (x : ℕ). union c x) (no_members h l) ∙ or_zero_r c in
    omega (arith, all-has (λ s. 0 < shared s (union c h)) ss s a m, ap (λ (x : ℕ). shared s x) z)

pub hit_back : (ss : List ℕ) (c i k : ℕ) → HittableWith ss (union c (only i)) k → HittableWith ss c (k + 1)
hit_back ss c i k (h, l, a) = (union (only i) h, omega (arith, count-union (only i) h, count-only i), subst (λ (x : ℕ). Hits x ss) (union_assoc c (only i) h) a)

-- an unmet set has a craft that any hitting set takes
pub hit_on : (ss : List ℕ) (s c k : ℕ) → Has ss s → shared s c ≡ 0 → HittableWith ss c (k + 1) → (i : ℕ) × In i s × HittableWith ss (union c (only i)) k
hit_on ss s c k m e (h, l, a) =
    let r = shared_member s (union c h) (all-has (λ s. 0 < shared s (union c h)) ss s a m) in
    let i = r.0 in
    let out : bit c i ≡ 0 = omega (arith, r.1, bit-shared s c i, ap (λ (x : ℕ). bit x i) e, bit-zero i, bit_le c i) in
    let into : In i h = omega (arith, r.2, out, bit-union c h i) in
    let g = less h (only i) in
    let same : union (union c (only i)) g ≡ union c h = same_bits _ _ (λ j. ⊎_elim
    (λ (q : i ≡ j). let t : bit h j ≡ 1 = subst (λ (x : ℕ). In x h) q into in let o : bit (only i) j ≡ 1 = subst (λ (x : ℕ). In x (only i)) q (bit-only i) in
    omega (arith, bit-union (union c (only i)) g j, bit-union c (only i) j, bit-union c h j, bit-less h (only i) j))
    (λ ne. omega (arith, bit-union (union c (only i)) g j, bit-union c (only i) j, bit-union c h j, bit-less h (only i) j, bit-only_other i j ne)) (cases_eq i j)) in
    (i, r.1, (g, omega (arith, count-less-only h i into), subst (λ (x : ℕ). Hits x ss) (sym same) a))

-- ---- the craft of a set in turn

-- the turns so far, this one and those to come are the members: this one is one of them
pub turn_member : (s : ℕ) (front rest : List ℕ) (i : ℕ) → front ++ i ∷ rest ≡ members_of s → (i < labels) × In i s
turn_member s front rest i e =
    all-has (λ (j : ℕ). (j < labels) × In j s) (members_of s) i
    (each_all (λ (j : ℕ). j) s (λ (j : ℕ). (j < labels) × In j s) labels (λ k l h. (l, has_in s k h)))
    (subst (λ (js : List ℕ). Has js i) e (has_append_right front (i ∷ rest) i (has_here i rest)))

-- what holds of all that had a turn holds of each member once none is to come
pub turns_done : (P : ℕ → Type 0) (s : ℕ) (front rest : List ℕ) → s < 2 ^ labels → front ++ rest ≡ members_of s → rest ≡ [] → AllByRecursion P front
    → (i : ℕ) → In i s → P i
turns_done P s front rest small e none h i m =
    let all : members_of s ≡ front = sym e ∙ ap (λ (js : List ℕ). front ++ js) none ∙ append-nil front in
    all-has P front i h (subst (λ (js : List ℕ). Has js i) all (each-has (λ (j : ℕ). j) s labels i (in_below labels s i small m) (in_has s i m)))

-- ---- the first unmet set

module _ (c : ℕ) where
  unmet_more : (s : ℕ) (ss : List ℕ) → 0 < shared s c → (r : Option ℕ) → MatchOption r (Hits c ss) (λ t. Has ss t × (shared t c ≡ 0))
      → MatchOption r (Hits c (s ∷ ss)) (λ t. Has (s ∷ ss) t × (shared t c ≡ 0))
  unmet_more s ss m None h = (m, h)
  unmet_more s ss m (Some t) h = (has_later s t ss h.0, h.1)

  pub unmet : (ss : List ℕ) → MatchOption (find (λ s. not (meeting s c)) ss) (Hits c ss) (λ s. Has ss s × (shared s c ≡ 0))
  unmet [] = tt
  unmet (s ∷ ss) = ⊎_elim
      (λ (e : meeting s c ≡ true). rw e (unmet_more s ss (meets_all s c e) (find (λ t. not (meeting t c)) ss) (unmet ss)))
      (λ (e : meeting s c ≡ false). rw e (has_here s ss, meets_none s c e))
      (cases_Bool (meeting s c))

-- ---- two ends

pub heard_empty : (h : ℕ) (ss : List ℕ) → Has ss 0 → Hits h ss → ⊥
heard_empty h ss m a = omega (arith, all-has (λ s. 0 < shared s h) ss 0 a m)

pub none_hit : (s : ℕ) (ss : List ℕ) → Hittable 0 (s ∷ ss) → ⊥
none_hit s ss (h, l, a) = let r = shared_member s h a.0 in omega (arith, count-less-only h r.0 r.2)
