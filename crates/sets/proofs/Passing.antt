-- Members and size of the set of the craft below n that pass a test. Assumes nothing.
use Rattle.std.proofs.Common.{◌≡◌, ℕ, zero, suc, ◌+◌, ◌^◌, ◌<◌, ◌≤◌, Bool, true, false, cond, not, ◌&&◌, sym, refl, ap, ◌∙◌, ⊎_elim, pow-suc, arith, pow_pos}
use lib.Bits.{or_lt, or_zero_r}
use lib.Count.{ones}
use Rattle.std.proofs.lemmas.Bool.{cases_Bool, cases_eq, cond-true, and_from, not_from_false}
use Rattle.sets.specs.Sets.{bit, In, Within, has, union, only, count, passing}
use Rattle.sets.proofs.Bits.{bit_le, bit-union, bit-zero, bit-only, bit-only_other, bit_past}
use Rattle.sets.proofs.Members.{has_in, cases_in, within_by}
use Rattle.sets.proofs.Counts.{count-zero, count_within, count_by_members, count-union, count-adding, one_outside}

next_lt : (n : ℕ) (b : Bool) → cond b (only n) 0 < 2 ^ suc n
next_lt n true = omega (arith, pow-suc 2 n, pow_pos n)
next_lt n false = omega (arith, pow-suc 2 n, pow_pos n)

pub passing_lt : (n : ℕ) (P : ℕ → Bool) → passing n P < 2 ^ n
unfolding passing
passing_lt zero P = omega arith
passing_lt (suc n) P =
    or_lt (suc n) (passing n P) (cond (P n) (only n) 0) (omega (arith, passing_lt n P, pow-suc 2 n)) (next_lt n (P n))

-- ---- who is in it

pub in_passing : (n : ℕ) (P : ℕ → Bool) (i : ℕ) → i < n → P i ≡ true → In i (passing n P)
unfolding passing
in_passing zero P i h e = absurd (omega arith)
in_passing (suc n) P i h e = ⊎_elim
    (λ (q : i ≡ n).
    let c : cond (P n) (only n) 0 ≡ only n = cond-true (P n) (only n) 0 (ap P (sym q) ∙ e) in
    let d : bit (cond (P n) (only n) 0) i ≡ 1 = ap (λ (x : ℕ). bit x i) c ∙ ap (λ (x : ℕ). bit (only n) x) q ∙ bit-only n in
    omega (arith, bit-union (passing n P) (cond (P n) (only n) 0) i, bit_le (passing n P) i, d))
    (λ ne. omega (arith, bit-union (passing n P) (cond (P n) (only n) 0) i, in_passing n P i (omega arith) e, bit_le (cond (P n) (only n) 0) i))
    (cases_eq i n)

next_in : (n i : ℕ) (b : Bool) → In i (cond b (only n) 0) → (n ≡ i) × (b ≡ true)
next_in n i true h = ⊎_elim (λ (q : n ≡ i). (q, refl)) (λ ne. absurd (omega (arith, bit-only_other n i ne))) (cases_eq n i)
next_in n i false h = absurd (omega (arith, bit-zero i))

pub passing_in : (n : ℕ) (P : ℕ → Bool) (i : ℕ) → In i (passing n P) → (i < n) × (P i ≡ true)
unfolding passing
passing_in zero P i h = absurd (omega (arith, bit-zero i))
passing_in (suc n) P i h = ⊎_elim
    (λ (e : In i (passing n P)). let r = passing_in n P i e in (omega (arith, r.0), r.1))
    (λ z.
    let r = next_in n i (P n) (omega (arith, bit-union (passing n P) (cond (P n) (only n) 0) i, bit_le (cond (P n) (only n) 0) i)) in
    (omega (arith, r.0), ap P (sym r.0) ∙ r.1))
    (cases_in (passing n P) i)

-- who passes the one test passes the other
pub passing_within : (n : ℕ) (P Q : ℕ → Bool) → ((i : ℕ) → i < n → P i ≡ true → Q i ≡ true) → Within (passing n P) (passing n Q)
passing_within n P Q h =
    within_by (passing n P) (passing n Q) (λ i e. let r = passing_in n P i e in in_passing n Q i r.0 (h i r.0 r.1))

-- the same craft pass tests that agree
-- a set within n labels is that of the craft that are in it
-- ---- how many

pub count-passing_mono : (n : ℕ) (P Q : ℕ → Bool) → ((i : ℕ) → i < n → P i ≡ true → Q i ≡ true) → count (passing n P) ≤ count (passing n Q)
count-passing_mono n P Q h = count_within (passing n P) (passing n Q) (passing_within n P Q h)

one_more : (n m : ℕ) (b : Bool) → m < 2 ^ n → count (union m (cond b (only n) 0)) ≡ count m + cond b 1 0
one_more n m true h = count-adding n m (bit_past n m n h (omega arith))
one_more n m false h = ap ones (or_zero_r m) ∙ omega arith

pub count-passing_next : (n : ℕ) (P : ℕ → Bool) → count (passing (suc n) P) ≡ count (passing n P) + cond (P n) 1 0
unfolding passing
count-passing_next n P = one_more n (passing n P) (P n) (passing_lt n P)

one_way : (b : Bool) → cond {A = ℕ} b 1 0 + cond (not b) 1 0 ≡ 1
one_way true = refl
one_way false = refl

none : (P : ℕ → Bool) → count (passing 0 P) ≡ 0
unfolding passing
none P = count-zero

-- those who pass and those who do not are all
pub count-passing-parted : (n : ℕ) (P : ℕ → Bool) → count (passing n P) + count (passing n (λ i. not (P i))) ≡ n
count-passing-parted zero P = omega (arith, none P, none (λ i. not (P i)))
count-passing-parted (suc n) P =
    omega (arith, count-passing_next n P, count-passing_next n (λ i. not (P i)), count-passing-parted n P, one_way (P n))

-- ---- outside a set

-- at least n less the size of s are outside s
pub count-outside : (n s : ℕ) → n ≤ count (passing n (λ i. not (has s i))) + count s
count-outside n s =
    omega (
      arith,
      count-passing-parted n (has s),
      count_by_members (passing n (has s)) s (λ i h. has_in s i (passing_in n (has s) i h).1),
    )

-- those who pass are those who pass outside s, and at most all of s
pub count-passing-outside : (n s : ℕ) (P : ℕ → Bool) → count (passing n P) ≤ count (passing n (λ i. P i && not (has s i))) + count s
count-passing-outside n s P =
    let Q = λ (i : ℕ). P i && not (has s i) in
    omega (
      arith,
      count-union (passing n Q) s,
      count_by_members (passing n P) (union (passing n Q) s) (λ i h.
          let r = passing_in n P i h in
          ⊎_elim
          (λ (e : has s i ≡ true). omega (arith, bit-union (passing n Q) s i, has_in s i e, bit_le (passing n Q) i))
          (λ e. omega (
            arith,
            bit-union (passing n Q) s i,
            in_passing n Q i r.0 (and_from (P i) (not (has s i)) r.1 (not_from_false (has s i) e)),
            bit_le s i,
          ))
          (cases_Bool (has s i))),
    )

-- of more than f who pass, one is outside a set of at most f
pub one_passes_outside : (n f s : ℕ) (P : ℕ → Bool) → f < count (passing n P) → count s ≤ f → (i : ℕ) × (i < n) × (P i ≡ true) × (bit s i ≡ 0)
one_passes_outside n f s P h l =
    let r = one_outside f (passing n P) s h l in
    let q = passing_in n P r.0 r.1 in
    (r.0, q.0, q.1, r.2)
