-- The bits of a union, an intersection, a difference, a set of one and the set of all craft below a label;
-- sets with the same bits are equal. Assumes nothing.
use Rattle.std.proofs.Common.{◌≡◌, ℕ, zero, suc, ◌-◌, ◌/◌, ◌%◌, ◌^◌, ◌<◌, ◌≤◌, min, max, refl, ap, ◌∙◌, ⊎_elim, pow-suc, arith, pow_pos, shr-shr}
use lib.Arith.{bin_ind}
use lib.Bits.{bit_and, bit_or, and_step, or_step, and_le_l}
use Rattle.std.proofs.lemmas.Bool.{cases_lt}
use Rattle.sets.specs.Sets.{bit, union, shared, less, only, below}

-- ---- one digit off each operation

pub and_half : (a b : ℕ) → bit_and a b / 2 ≡ bit_and (a / 2) (b / 2)
and_half a b = omega (arith, and_step a b)

pub and_odd : (a b : ℕ) → bit_and a b % 2 ≡ min (a % 2) (b % 2)
and_odd a b = omega (arith, and_step a b)

pub or_half : (a b : ℕ) → bit_or a b / 2 ≡ bit_or (a / 2) (b / 2)
or_half a b = omega (arith, or_step a b)

pub or_odd : (a b : ℕ) → bit_or a b % 2 ≡ max (a % 2) (b % 2)
or_odd a b = omega (arith, or_step a b)

pub less_half : (a b : ℕ) → less a b / 2 ≡ less (a / 2) (b / 2)
less_half a b = omega (arith, and_step a b, and_le_l (a / 2) (b / 2))

pub less_odd : (a b : ℕ) → less a b % 2 ≡ a % 2 - b % 2
less_odd a b = omega (arith, and_step a b, and_le_l (a / 2) (b / 2))

-- ---- one bit of each set

pub bit_le : (m i : ℕ) → bit m i ≤ 1
bit_le m zero = omega arith
bit_le m (suc i) = bit_le (m / 2) i

-- the bit as a shift reads it
pub bit_shift : (m i : ℕ) → bit m i ≡ m / 2 ^ i % 2
bit_shift m zero = ap (λ (x : ℕ). x % 2) (omega arith)
bit_shift m (suc i) = bit_shift (m / 2) i ∙ ap (λ (x : ℕ). x % 2) (shr-shr m 1 i ∙ ap (λ (x : ℕ). m / 2 ^ x) (omega arith))

pub bit-zero : (i : ℕ) → bit 0 i ≡ 0
bit-zero zero = refl
bit-zero (suc i) = bit-zero i

pub bit-shared : (a b i : ℕ) → bit (shared a b) i ≡ min (bit a i) (bit b i)
bit-shared a b zero = and_odd a b
bit-shared a b (suc i) = ap (λ (x : ℕ). bit x i) (and_half a b) ∙ bit-shared (a / 2) (b / 2) i

pub bit-union : (a b i : ℕ) → bit (union a b) i ≡ max (bit a i) (bit b i)
bit-union a b zero = or_odd a b
bit-union a b (suc i) = ap (λ (x : ℕ). bit x i) (or_half a b) ∙ bit-union (a / 2) (b / 2) i

pub bit-less : (a b i : ℕ) → bit (less a b) i ≡ bit a i - bit b i
bit-less a b zero = less_odd a b
bit-less a b (suc i) = ap (λ (x : ℕ). bit x i) (less_half a b) ∙ bit-less (a / 2) (b / 2) i

pub bit-only : (i : ℕ) → bit (only i) i ≡ 1
bit-only zero = refl
bit-only (suc i) = ap (λ (x : ℕ). bit x i) (omega (arith, pow-suc 2 i)) ∙ bit-only i

pub bit-only_other : (i j : ℕ) → (i ≡ j → ⊥) → bit (only i) j ≡ 0
bit-only_other zero zero ne = absurd (ne refl)
bit-only_other zero (suc j) ne = bit-zero j
bit-only_other (suc i) zero ne = omega (arith, pow-suc 2 i)
bit-only_other (suc i) (suc j) ne =
    ap (λ (x : ℕ). bit x j) (omega (arith, pow-suc 2 i)) ∙ bit-only_other i j (λ e. ne (ap suc e))

pub bit_below : (n i : ℕ) → i < n → bit (below n) i ≡ 1
bit_below zero i h = absurd (omega arith)
bit_below (suc n) zero h = omega (arith, pow-suc 2 n, pow_pos n)
bit_below (suc n) (suc i) h =
    let e : below (suc n) / 2 ≡ below n = omega (arith, pow-suc 2 n, pow_pos n) in
    ap (λ (x : ℕ). bit x i) e ∙ bit_below n i (omega arith)

-- nothing at or past the width
pub bit_past : (n m i : ℕ) → m < 2 ^ n → n ≤ i → bit m i ≡ 0
bit_past zero m i h l = ap (λ (x : ℕ). bit x i) (omega arith) ∙ bit-zero i
bit_past (suc n) m zero h l = absurd (omega arith)
bit_past (suc n) m (suc i) h l = bit_past n (m / 2) i (omega (arith, pow-suc 2 n)) (omega arith)

-- the complement among the craft below n
pub bit_complement : (n m i : ℕ) → m < 2 ^ n → bit (below n - m) i ≡ bit (below n) i - bit m i
bit_complement zero m i h = ap (λ (x : ℕ). bit x i) (omega arith) ∙ bit-zero i ∙ omega (arith, bit-zero i)
bit_complement (suc n) m zero h = omega (arith, pow-suc 2 n, pow_pos n)
bit_complement (suc n) m (suc i) h =
    let e : below (suc n) / 2 ≡ below n = omega (arith, pow-suc 2 n, pow_pos n) in
    let d : (below (suc n) - m) / 2 ≡ below n - m / 2 = omega (arith, pow-suc 2 n, pow_pos n) in
    omega (
      arith,
      bit_complement n (m / 2) i (omega (arith, pow-suc 2 n)),
      ap (λ (x : ℕ). bit x i) e,
      ap (λ (x : ℕ). bit x i) d,
    )

-- ---- sets with the same bits are equal

pub same_bits : (a b : ℕ) → ((i : ℕ) → bit a i ≡ bit b i) → a ≡ b
same_bits =
    bin_ind (λ (n : ℕ). (b : ℕ) → ((i : ℕ) → bit n i ≡ bit b i) → n ≡ b)
    (bin_ind (λ (m : ℕ). ((i : ℕ) → bit 0 i ≡ bit m i) → 0 ≡ m) (λ _. refl)
    (λ m ih h. omega (arith, ih (λ i. h (suc i)), h 0)))
    (λ n ih b h. omega (arith, ih (b / 2) (λ i. h (suc i)), h 0))

pub union_assoc : (a b c : ℕ) → union (union a b) c ≡ union a (union b c)
union_assoc a b c =
    same_bits _ _ (λ i. omega (arith, bit-union (union a b) c i, bit-union a b i, bit-union a (union b c) i, bit-union b c i))

-- the difference as `a & !b` computes it
pub less_complement : (n a b : ℕ) → a < 2 ^ n → b < 2 ^ n → shared a (below n - b) ≡ less a b
less_complement n a b la lb =
    same_bits _ _ (λ i.
    ⊎_elim
    (λ (l : i < n). omega (arith, bit-shared a (below n - b) i, bit_complement n b i lb, bit_below n i l, bit-less a b i, bit_le a i, bit_le b i))
    (λ g. omega (arith, bit-shared a (below n - b) i, bit-less a b i, bit_past n a i la g)) (cases_lt i n))
