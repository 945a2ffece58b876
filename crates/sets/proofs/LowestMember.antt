-- The lowest member: the number of trailing zeros; what is left without it. Assumes nothing.
use Rattle.std.proofs.Common.{◌≡◌, ℕ, zero, suc, ◌+◌, ◌-◌, ◌/◌, ◌%◌, ◌^◌, ◌<◌, ◌≤◌, ◌≢◌, sym, refl, ap, ◌∙◌, ⊎_elim, pow-suc, arith}
use lib.Arith.{bin_ind}
use lib.Bits.{bit_and, and_step, and_self}
use lib.Count.{count_trailing_zeros, under, ones, ones_step}
use Rattle.std.proofs.lemmas.Bool.{cases_lt}
use Rattle.sets.specs.Sets.{bit, In, IsLowest, shared, less, only, count}
use Rattle.sets.proofs.Bits.{bit-only, bit-only_other}
use Rattle.sets.proofs.Members.{in_below, in_positive, less-only, less_in, in_less}

-- ---- trailing zeros

under_zero : (d t : ℕ) → d ≡ 0 → under d t ≡ suc t
under_zero zero t e = refl
under_zero (suc d) t e = absurd (omega arith)

under_pos : (d t : ℕ) → 0 < d → under d t ≡ 0
under_pos zero t p = absurd (omega arith)
under_pos (suc d) t p = refl

trailing_even : (k m : ℕ) → m % 2 ≡ 0 → count_trailing_zeros (suc k) m ≡ suc (count_trailing_zeros k (m / 2))
unfolding count_trailing_zeros
trailing_even k m e = under_zero (m % 2) (count_trailing_zeros k (m / 2)) e

trailing_odd : (k m : ℕ) → 0 < m % 2 → count_trailing_zeros (suc k) m ≡ 0
unfolding count_trailing_zeros
trailing_odd k m e = under_pos (m % 2) (count_trailing_zeros k (m / 2)) e

pub lowest_in : (k m : ℕ) → 0 < m → m < 2 ^ k → In (count_trailing_zeros k m) m
lowest_in zero m p h = absurd (omega arith)
lowest_in (suc k) m p h = ⊎_elim
    (λ (o : 0 < m % 2). rw (trailing_odd k m o) (omega arith))
    (λ (z : m % 2 ≤ 0).
    let e : m % 2 ≡ 0 = omega arith in
    rw (trailing_even k m e) (lowest_in k (m / 2) (omega arith) (omega (arith, pow-suc 2 k)))) (cases_lt 0 (m % 2))

pub lowest_below : (k m : ℕ) → 0 < m → m < 2 ^ k → count_trailing_zeros k m < k
lowest_below k m p h = in_below k m (count_trailing_zeros k m) h (lowest_in k m p h)

pub below_lowest : (k m i : ℕ) → i < count_trailing_zeros k m → bit m i ≡ 0
unfolding count_trailing_zeros
below_lowest zero m i h = absurd (omega arith)
below_lowest (suc k) m zero h =
    ⊎_elim (λ (o : 0 < m % 2). absurd (omega (arith, trailing_odd k m o))) (λ (z : m % 2 ≤ 0). omega arith) (cases_lt 0 (m % 2))
below_lowest (suc k) m (suc i) h = ⊎_elim
    (λ (o : 0 < m % 2). absurd (omega (arith, trailing_odd k m o)))
    (λ (z : m % 2 ≤ 0). let e : m % 2 ≡ 0 = omega arith in below_lowest k (m / 2) i (omega (arith, trailing_even k m e))) (cases_lt 0 (m % 2))

pub lowest_member : (k m : ℕ) → 0 < m → m < 2 ^ k → IsLowest (count_trailing_zeros k m) m
lowest_member k m p h = record {
  member = lowest_in k m p h;
  least = λ j e. ⊎_elim (λ (l : j < count_trailing_zeros k m). absurd (omega (arith, below_lowest k m j l))) (λ g. g) (cases_lt j (count_trailing_zeros k m));
}

-- ---- `m & (m - 1)`

pub cleared_lowest : (i m : ℕ) → IsLowest i m → shared m (m - 1) ≡ m - only i
cleared_lowest zero m p =
    let o : m % 2 ≡ 1 = p.member in
    let h : (m - 1) / 2 ≡ m / 2 = omega arith in
    omega (arith, and_step m (m - 1), ap (λ (x : ℕ). bit_and (m / 2) x) h, and_self (m / 2))
cleared_lowest (suc i) m p =
    let z : m % 2 ≡ 0 =
    ⊎_elim (λ (l : m % 2 < 1). omega arith) (λ g. absurd (omega (arith, p.least 0 (omega arith)))) (cases_lt (m % 2) 1) in
    let q : IsLowest i (m / 2) = record { member = p.member; least = λ j e. omega (arith, p.least (suc j) e) } in
    let pos : 0 < m / 2 = in_positive (m / 2) i q.member in
    let h : (m - 1) / 2 ≡ m / 2 - 1 = omega arith in
    omega (arith, and_step m (m - 1), ap (λ (x : ℕ). bit_and (m / 2) x) h, cleared_lowest i (m / 2) q, pow-suc 2 i)

pub cleared_less : (i m : ℕ) → IsLowest i m → shared m (m - 1) ≡ less m (only i)
cleared_less i m p = cleared_lowest i m p ∙ sym (less-only m i p.member)

pub cleared_trailing : (k m : ℕ) → 0 < m → m < 2 ^ k → shared m (m - 1) ≡ m - only (count_trailing_zeros k m)
cleared_trailing k m p h = cleared_lowest (count_trailing_zeros k m) m (lowest_member k m p h)

-- the members are those of m but the lowest
pub in_cleared : (i m j : ℕ) → IsLowest i m → In j m → j ≢ i → In j (shared m (m - 1))
in_cleared i m j p h ne = rw (cleared_less i m p) (in_less m (only i) j h (bit-only_other i j (λ e. ne (sym e))))

pub cleared_in : (i m j : ℕ) → IsLowest i m → In j (shared m (m - 1)) → In j m × (j ≢ i)
cleared_in i m j p h =
    let r = less_in m (only i) j (rw (cleared_less i m p) at h) in
    (r.0, λ e. omega (arith, r.1, ap (λ (x : ℕ). bit (only i) x) e, bit-only i))

-- and count one less
pub count_cleared : (m : ℕ) → 0 < m → count (shared m (m - 1)) + 1 ≡ count m
count_cleared =
    bin_ind (λ (n : ℕ). 0 < n → count (shared n (n - 1)) + 1 ≡ count n) (λ h. absurd (omega arith))
    (λ n ih h. ⊎_elim
    (λ (o : 0 < n % 2).
    let e : (n - 1) / 2 ≡ n / 2 = omega arith in
    let d : shared n (n - 1) / 2 ≡ n / 2 = omega (arith, and_step n (n - 1), ap (λ (x : ℕ). bit_and (n / 2) x) e, and_self (n / 2)) in
    omega (arith, ones_step n, ones_step (shared n (n - 1)), ap ones d, and_step n (n - 1)))
    (λ (z : n % 2 ≤ 0).
    let e : (n - 1) / 2 ≡ n / 2 - 1 = omega arith in
    let d : shared n (n - 1) / 2 ≡ shared (n / 2) (n / 2 - 1) = omega (arith, and_step n (n - 1), ap (λ (x : ℕ). bit_and (n / 2) x) e) in
    omega (arith, ih (omega arith), ones_step n, ones_step (shared n (n - 1)), ap ones d, and_step n (n - 1)))
    (cases_lt 0 (n % 2)))
