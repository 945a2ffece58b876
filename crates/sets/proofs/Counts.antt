-- How many members: of a union, a subset, a difference, a set with one craft more or fewer. Assumes nothing.
use Rattle.std.proofs.Common.{◌≡◌, ℕ, zero, suc, ◌+◌, ◌-◌, ◌/◌, ◌%◌, ◌^◌, ◌<◌, ◌≤◌, true, false, sym, refl, ap, ◌∙◌, ⊎_elim, pow-suc, arith}
use lib.Arith.{bin_ind}
use lib.Bits.{or_lt}
use lib.Count.{ones, ones_step, ones-le, ones-ones}
use Rattle.std.proofs.lemmas.Bool.{cases_Bool, cases_lt, cond-true, cond-false}
use Rattle.sets.specs.Sets.{bit, In, Within, has, union, shared, less, only, one_of, adding, below, count, others}
use Rattle.sets.proofs.Bits.{and_half, and_odd, or_half, or_odd, less_half, less_odd}
use Rattle.sets.proofs.Members.{has_in, lacks_bit, has_past, within_by, less_none, shared-only, shared-only_none, less-only_none, one_of-below, one_of_past, adding_same}

pub count-zero : count 0 ≡ 0
unfolding ones
count-zero = refl

pub count-only : (i : ℕ) → count (only i) ≡ 1
unfolding ones
count-only zero = refl
count-only (suc i) =
    let h : only (suc i) / 2 ≡ only i = omega (arith, pow-suc 2 i) in
    omega (arith, ones_step (only (suc i)), ap ones h, count-only i, pow-suc 2 i)

pub count-below : (n : ℕ) → count (below n) ≡ n
count-below n = ones-ones n

-- n labels have at most n members
pub count-width : (n a : ℕ) → a < 2 ^ n → count a ≤ n
count-width n a h = ones-le n a h

-- ---- unions and intersections

pub count-union-shared : (a b : ℕ) → count (union a b) + count (shared a b) ≡ count a + count b
count-union-shared =
    bin_ind (λ (n : ℕ). (b : ℕ) → count (union n b) + count (shared n b) ≡ count n + count b) (λ b. omega arith)
    (λ n ih b. omega (
      arith,
      ih (b / 2),
      ones_step n,
      ones_step b,
      ones_step (union n b),
      ones_step (shared n b),
      ap ones (or_half n b),
      ap ones (and_half n b),
      or_odd n b,
      and_odd n b,
    ))

pub count-union : (a b : ℕ) → count (union a b) ≤ count a + count b
count-union a b = omega (arith, count-union-shared a b)

pub count_disjoint : (a b : ℕ) → shared a b ≡ 0 → count (union a b) ≡ count a + count b
count_disjoint a b e = omega (arith, count-union-shared a b, ap ones e, count-zero)

-- two sets within n labels: how many they share at least
pub count-shared : (n a b : ℕ) → a < 2 ^ n → b < 2 ^ n → count a + count b ≤ n + count (shared a b)
count-shared n a b ha hb = omega (arith, count-union-shared a b, count-width n (union a b) (or_lt n a b ha hb))

-- ---- subsets

pub count_within : (a b : ℕ) → Within a b → count a ≤ count b
count_within =
    bin_ind (λ (n : ℕ). (b : ℕ) → Within n b → count n ≤ count b) (λ b h. omega (arith, count-zero))
    (λ n ih b h. omega (arith, ih (b / 2) (λ i. h (suc i)), h 0, ones_step n, ones_step b))

pub count_by_members : (a b : ℕ) → ((i : ℕ) → In i a → In i b) → count a ≤ count b
count_by_members a b h = count_within a b (within_by a b h)

-- the larger set has a member that the smaller lacks
pub one-outside_smaller : (a b : ℕ) → count b < count a → (i : ℕ) × In i a × (bit b i ≡ 0)
one-outside_smaller =
    bin_ind (λ (n : ℕ). (b : ℕ) → count b < count n → (i : ℕ) × In i n × (bit b i ≡ 0)) (λ b h. absurd (omega (arith, count-zero)))
    (λ n ih b h. ⊎_elim (λ (l : b % 2 < n % 2). (0, omega arith, omega arith))
    (λ l. let r = ih (b / 2) (omega (arith, ones_step n, ones_step b)) in (suc r.0, r.1, r.2)) (cases_lt (b % 2) (n % 2)))

-- of more than f members one is outside any set of at most f
pub one_outside : (f a b : ℕ) → f < count a → count b ≤ f → (i : ℕ) × In i a × (bit b i ≡ 0)
one_outside f a b ha hb = one-outside_smaller a b (omega arith)

-- ---- differences, one craft more or fewer

pub count_less : (a b : ℕ) → count (less a b) + count (shared a b) ≡ count a
count_less =
    bin_ind (λ (n : ℕ). (b : ℕ) → count (less n b) + count (shared n b) ≡ count n) (λ b. omega (arith, count-zero))
    (λ n ih b. omega (
      arith,
      ih (b / 2),
      ones_step n,
      ones_step (less n b),
      ones_step (shared n b),
      ap ones (less_half n b),
      ap ones (and_half n b),
      less_odd n b,
      and_odd n b,
    ))

pub count-adding : (k s : ℕ) → bit s k ≡ 0 → count (adding k s) ≡ count s + 1
count-adding k s e = omega (arith, count_disjoint s (only k) (shared-only_none s k e), count-only k)

pub count-less-only : (m i : ℕ) → In i m → count (less m (only i)) + 1 ≡ count m
count-less-only m i h = omega (arith, count_less m (only i), ap ones (shared-only m i h), count-only i)

-- the others are the set without that craft
pub others-count : (k s : ℕ) → others k s ≡ count (less s (only k))
others-count k s = ⊎_elim
    (λ (e : has s k ≡ true). omega (arith, cond-true (has s k) (count s - 1) (count s) e, count-less-only s k (has_in s k e)))
    (λ (e : has s k ≡ false). omega (arith, cond-false (has s k) (count s - 1) (count s) e, ap ones (less-only_none s k (lacks_bit s k e))))
    (cases_Bool (has s k))

-- the same by labels below n, where a craft past them has no set
pub others-one_of : (n k s : ℕ) → s < 2 ^ n → others k s ≡ count (less s (one_of n k))
others-one_of n k s h = ⊎_elim
    (λ (l : k < n). others-count k s ∙ ap (λ (x : ℕ). count (less s x)) (sym (one_of-below n k l)))
    (λ (g : n ≤ k).
    let e : one_of n k ≡ 0 = one_of_past n k g in
    cond-false (has s k) (count s - 1) (count s) (has_past n s k h g) ∙ sym (ap (λ (x : ℕ). count (less s x)) e ∙ ap ones (less_none s)))
    (cases_lt k n)

-- one more is at most f, where fewer than f others are there
pub adding_most : (k s f : ℕ) → count s ≤ f → others k s < f → count (adding k s) ≤ f
adding_most k s f h l = ⊎_elim
    (λ (e : has s k ≡ true). omega (arith, ap ones (adding_same k s (has_in s k e))))
    (λ (e : has s k ≡ false). omega (arith, count-adding k s (lacks_bit s k e), cond-false (has s k) (count s - 1) (count s) e))
    (cases_Bool (has s k))
