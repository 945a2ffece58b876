-- Who is a member: the test and the bit, subsets, sets of one, a set with one craft more. Assumes nothing.
use Rattle.std.proofs.Common.{◌≡◌, ℕ, suc, ◌-◌, ◌%◌, ◌^◌, ◌<◌, ◌≤◌, true, false, eqb, ◌⊎◌, Decides, sym, ap, ◌∙◌, subst, inl, inr, ⊎_elim, arith}
use lib.Arith.{bin_ind}
use lib.Bits.{and_comm, and_self, and_le_l, and_zero_r}
use Rattle.std.proofs.lemmas.Bool.{cases_eq, cases_lt, eqb-true, eqb-false, eq-eqb, ne_eqb, not-true, not_from_false, both_ways, cond-true, cond-false, lt-ltb, le-ltb}
use Rattle.sets.specs.Sets.{bit, In, Within, has, inside, meeting, union, shared, less, only, one_of, adding, below}
use Rattle.sets.proofs.Bits.{bit_le, bit_shift, bit-zero, bit-shared, bit-union, bit-less, bit-only, bit-only_other, bit_below, bit_past, same_bits}

-- ---- the test and the bit

pub has_in : (s k : ℕ) → has s k ≡ true → In k s
has_in s k h = bit_shift s k ∙ eqb-true _ _ h

pub in_has : (s k : ℕ) → In k s → has s k ≡ true
in_has s k h = eq-eqb _ _ (sym (bit_shift s k) ∙ h)

pub lacks_bit : (s k : ℕ) → has s k ≡ false → bit s k ≡ 0
lacks_bit s k h =
    let ne = eqb-false _ _ h in
    ⊎_elim (λ (l : bit s k < 1). omega arith) (λ g. absurd (ne (omega (arith, bit_shift s k, bit_le s k)))) (cases_lt (bit s k) 1)

pub bit_lacks : (s k : ℕ) → bit s k ≡ 0 → has s k ≡ false
bit_lacks s k h = ne_eqb _ _ (λ e. omega (arith, bit_shift s k))

pub not_in : (s k : ℕ) → (In k s → ⊥) → bit s k ≡ 0
not_in s k ne = ⊎_elim (λ (l : bit s k < 1). omega arith) (λ g. absurd (ne (omega (arith, bit_le s k)))) (cases_lt (bit s k) 1)

pub cases_in : (s k : ℕ) → In k s ⊎ (bit s k ≡ 0)
cases_in s k = ⊎_elim (λ (l : bit s k < 1). inr (omega arith)) (λ g. inl (omega (arith, bit_le s k))) (cases_lt (bit s k) 1)

pub has_decides : (s k : ℕ) → Decides (has s k) (In k s)
has_decides s k = (has_in s k, in_has s k)

-- ---- members and width

-- a set within n labels has no members past them
pub in_below : (n s k : ℕ) → s < 2 ^ n → In k s → k < n
in_below n s k l h = ⊎_elim (λ (p : k < n). p) (λ g. absurd (omega (arith, bit_past n s k l g))) (cases_lt k n)

pub has_past : (n s k : ℕ) → s < 2 ^ n → n ≤ k → has s k ≡ false
has_past n s k l g = bit_lacks s k (bit_past n s k l g)

-- ---- the empty set

pub in_positive : (m i : ℕ) → In i m → 0 < m
in_positive m i h =
    ⊎_elim (λ (p : 0 < m). p)
    (λ z. let e : m ≡ 0 = omega arith in omega (arith, ap (λ (x : ℕ). bit x i) e, bit-zero i)) (cases_lt 0 m)

pub some_member : (m : ℕ) → 0 < m → (i : ℕ) × In i m
some_member =
    bin_ind (λ (n : ℕ). 0 < n → (i : ℕ) × In i n) (λ h. absurd (omega arith))
    (λ n ih h. ⊎_elim (λ (l : 0 < n % 2). (0, omega arith))
    (λ l. let r = ih (omega arith) in (suc r.0, r.1)) (cases_lt 0 (n % 2)))

-- ---- members in common

pub in_shared : (a b i : ℕ) → In i a → In i b → In i (shared a b)
in_shared a b i p q = omega (arith, bit-shared a b i)

pub shared_in : (a b i : ℕ) → In i (shared a b) → In i a × In i b
shared_in a b i h = (omega (arith, bit-shared a b i, bit_le a i, bit_le b i), omega (arith, bit-shared a b i, bit_le a i, bit_le b i))

pub shared_positive : (a b i : ℕ) → In i a → In i b → 0 < shared a b
shared_positive a b i p q = in_positive (shared a b) i (in_shared a b i p q)

pub shared_member : (a b : ℕ) → 0 < shared a b → (i : ℕ) × In i a × In i b
shared_member a b h =
    let r = some_member (shared a b) h in
    let p = shared_in a b r.0 r.1 in
    (r.0, p.0, p.1)

pub meeting_decides : (a b : ℕ) → Decides (meeting a b) ((i : ℕ) × In i a × In i b)
meeting_decides a b = (
  λ e.
      let ne = eqb-false (shared a b) 0 (not-true _ e) in
      shared_member a b (⊎_elim (λ (p : 0 < shared a b). p) (λ z. absurd (ne (omega arith))) (cases_lt 0 (shared a b))),
  λ h. not_from_false _ (ne_eqb (shared a b) 0 (λ z. omega (arith, shared_positive a b h.0 h.1 h.2))),
)

-- ---- subsets

pub within_shared : (a b : ℕ) → Within a b → shared a b ≡ a
within_shared a b h = same_bits (shared a b) a (λ i. omega (arith, bit-shared a b i, h i))

pub shared_within : (a b : ℕ) → shared a b ≡ a → Within a b
shared_within a b e i = omega (arith, bit-shared a b i, ap (λ (x : ℕ). bit x i) e)

pub inside_within : (a b : ℕ) → inside a b ≡ true → Within a b
inside_within a b e = shared_within a b (eqb-true (shared a b) a e)

pub within_inside : (a b : ℕ) → Within a b → inside a b ≡ true
within_inside a b h = eq-eqb (shared a b) a (within_shared a b h)

pub inside_decides : (a b : ℕ) → Decides (inside a b) (Within a b)
inside_decides a b = (inside_within a b, within_inside a b)

pub inside_self : (a : ℕ) → inside a a ≡ true
inside_self a = eq-eqb (shared a a) a (and_self a)

pub inside_trans : (a b c : ℕ) → inside a b ≡ true → inside b c ≡ true → inside a c ≡ true
inside_trans a b c p q = within_inside a c (λ i. omega (arith, inside_within a b p i, inside_within b c q i))

pub within_by : (a b : ℕ) → ((i : ℕ) → In i a → In i b) → Within a b
within_by a b h i = ⊎_elim (λ (e : In i a). omega (arith, h i e, bit_le a i)) (λ z. omega arith) (cases_in a i)

pub within_in : (a b i : ℕ) → Within a b → In i a → In i b
within_in a b i h p = omega (arith, h i, bit_le b i)

pub within_lt : (n a b : ℕ) → Within a b → b < 2 ^ n → a < 2 ^ n
within_lt n a b h l = omega (arith, within_shared a b h, and_comm a b, and_le_l b a)

pub shared_within_left : (a b : ℕ) → Within (shared a b) a
shared_within_left a b i = omega (arith, bit-shared a b i)

pub shared_within_right : (a b : ℕ) → Within (shared a b) b
shared_within_right a b i = omega (arith, bit-shared a b i)

pub union_within_left : (a b : ℕ) → Within a (union a b)
union_within_left a b i = omega (arith, bit-union a b i)

pub union_within_right : (a b : ℕ) → Within b (union a b)
union_within_right a b i = omega (arith, bit-union a b i)

pub union_within : (a b c : ℕ) → Within a c → Within b c → Within (union a b) c
union_within a b c p q i = omega (arith, bit-union a b i, p i, q i)

pub less_within : (a b : ℕ) → Within (less a b) a
less_within a b i = omega (arith, bit-less a b i)

-- sets with the same members are equal
pub same_members : (a b : ℕ) → ((i : ℕ) → In i a → In i b) → ((i : ℕ) → In i b → In i a) → a ≡ b
same_members a b p q = same_bits a b (λ i. omega (arith, within_by a b p i, within_by b a q i))

-- a set within n labels is a subset of all craft below n
pub within_below : (n s : ℕ) → s < 2 ^ n → Within s (below n)
within_below n s l = within_by s (below n) (λ i e. bit_below n i (in_below n s i l e))

-- ---- unions and differences

pub union_in : (a b i : ℕ) → In i (union a b) → In i a ⊎ In i b
union_in a b i h = ⊎_elim inl (λ z. inr (omega (arith, bit-union a b i, bit_le b i))) (cases_in a i)

pub less_in : (a b i : ℕ) → In i (less a b) → In i a × (bit b i ≡ 0)
less_in a b i h = (omega (arith, bit-less a b i, bit_le a i), omega (arith, bit-less a b i, bit_le a i))

pub in_less : (a b i : ℕ) → In i a → bit b i ≡ 0 → In i (less a b)
in_less a b i p z = omega (arith, bit-less a b i)

pub less_none : (a : ℕ) → less a 0 ≡ a
less_none a = omega (arith, and_zero_r a)

-- ---- sets of one

pub only-has : (k : ℕ) → has (only k) k ≡ true
only-has k = in_has (only k) k (bit-only k)

pub only_lacks : (k j : ℕ) → (k ≡ j → ⊥) → has (only k) j ≡ false
only_lacks k j ne = bit_lacks (only k) j (bit-only_other k j ne)

pub only_in : (k j : ℕ) → In j (only k) → k ≡ j
only_in k j h = ⊎_elim (λ (e : k ≡ j). e) (λ ne. absurd (omega (arith, bit-only_other k j ne))) (cases_eq k j)

pub only_within : (k s : ℕ) → In k s → Within (only k) s
only_within k s h = within_by (only k) s (λ j e. subst (λ (i : ℕ). In i s) (only_in k j e) h)

pub shared-only : (m i : ℕ) → In i m → shared m (only i) ≡ only i
shared-only m i h = and_comm m (only i) ∙ within_shared (only i) m (only_within i m h)

pub shared-only_none : (m i : ℕ) → bit m i ≡ 0 → shared m (only i) ≡ 0
shared-only_none m i e =
    same_bits (shared m (only i)) 0 (λ j.
    ⊎_elim (λ (q : i ≡ j). omega (arith, bit-shared m (only i) j, bit-zero j, ap (λ (x : ℕ). bit m x) q))
    (λ ne. omega (arith, bit-shared m (only i) j, bit-zero j, bit-only_other i j ne)) (cases_eq i j))

-- `m & (1 << i) != 0`
-- one member taken out is subtracted
pub less-only : (m i : ℕ) → In i m → less m (only i) ≡ m - only i
less-only m i h = ap (λ (x : ℕ). m - x) (shared-only m i h)

pub less-only_none : (m i : ℕ) → bit m i ≡ 0 → less m (only i) ≡ m
less-only_none m i e = omega (arith, shared-only_none m i e)

pub one_of-below : (n i : ℕ) → i < n → one_of n i ≡ only i
one_of-below n i h = cond-true _ (only i) 0 (lt-ltb i n h)

pub one_of_past : (n i : ℕ) → n ≤ i → one_of n i ≡ 0
one_of_past n i h = cond-false _ (only i) 0 (le-ltb i n h)

-- ---- one craft more

pub adding-has : (k s : ℕ) → has (adding k s) k ≡ true
adding-has k s = in_has (adding k s) k (omega (arith, bit-union s (only k) k, bit-only k, bit_le s k))

-- who is not in the larger set is not the added one, and was not in the smaller
pub adding_lacks : (k s j : ℕ) → has (adding k s) j ≡ false → (has s j ≡ false) × (k ≡ j → ⊥)
adding_lacks k s j h =
    let z = lacks_bit (adding k s) j h in (
      bit_lacks s j (omega (arith, bit-union s (only k) j)),
      λ e. both_ways (has (adding k s) j) h (subst (λ (i : ℕ). has (adding k s) i ≡ true) e (adding-has k s)),
    )

-- a member added is no change
pub adding_same : (k s : ℕ) → In k s → adding k s ≡ s
adding_same k s h =
    same_bits (adding k s) s (λ i. omega (arith, bit-union s (only k) i, only_within k s h i))

-- a set less one craft lacks that craft, and has the others as before
pub less-one_out : (n s k : ℕ) → k < n → has (less s (one_of n k)) k ≡ false
less-one_out n s k l =
    bit_lacks (less s (one_of n k)) k (ap (λ (m : ℕ). bit (less s m) k) (one_of-below n k l) ∙ bit-less s (only k) k ∙ omega (arith, bit-only k, bit_le s k))

pub less-one_same : (n s k j : ℕ) → k < n → (j ≡ k → ⊥) → has (less s (one_of n k)) j ≡ has s j
less-one_same n s k j l ne =
    let e : bit (less s (one_of n k)) j ≡ bit s j =
    ap (λ (m : ℕ). bit (less s m) j) (one_of-below n k l) ∙ bit-less s (only k) j ∙ omega (arith, bit-only_other k j (λ q. ne (sym q))) in
    ap (λ (b : ℕ). eqb b 1) (sym (bit_shift (less s (one_of n k)) j) ∙ e ∙ bit_shift s j)
