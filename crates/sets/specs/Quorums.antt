-- How many craft make a quorum, and the laws of counting that quorums rest on, for any number of craft. Assumes nothing.
--   quorum      of n craft with at most f faulty: (n + f + 1) / 2, rounded up
--   Counting    the laws, each under its name
use Rattle.std.specs.Prelude.{◌≡◌, ℕ, ◌+◌, ◌-◌, ◌*◌, ◌/◌, ◌^◌, ◌<◌, ◌≤◌, ◌≢◌}
use Rattle.std.specs.Int.Count.{count_trailing_zeros}
use Rattle.sets.specs.Sets.{In, Within, IsLowest, union, shared, only, count}

abbrev pub quorum : ℕ → ℕ → ℕ
quorum n f = (n + f + 2) / 2

pub record Counting : Type 0 where
  -- sets with the same members are equal
  pub same_members : (a b : ℕ) → ((i : ℕ) → In i a → In i b) → ((i : ℕ) → In i b → In i a) → a ≡ b
  -- a union and an intersection count together what the two sets do
  pub union_and_shared : (a b : ℕ) → count (union a b) + count (shared a b) ≡ count a + count b
  -- a union counts no more than the sum
  pub union_most : (a b : ℕ) → count (union a b) ≤ count a + count b
  -- a subset counts no more
  pub subset_most : (a b : ℕ) → Within a b → count a ≤ count b
  -- n labels have at most n members
  pub labels_most : (n a : ℕ) → a < 2 ^ n → count a ≤ n
  -- two quorums share at least f + 1
  pub quorums_share : (n f a b : ℕ) → a < 2 ^ n → b < 2 ^ n → quorum n f ≤ count a → quorum n f ≤ count b → f + 1 ≤ count (shared a b)
  -- of more than f members one is outside any set of at most f
  pub one_outside : (f a b : ℕ) → f < count a → count b ≤ f → (i : ℕ) × In i a × (In i b → ⊥)
  -- with n above 3f, those who are not faulty make a quorum, and are at least 2f + 1
  pub quorum_reached : (n f : ℕ) → 3 * f < n → quorum n f ≤ n - f
  pub more_than_twice : (n f : ℕ) → 3 * f < n → 2 * f + 1 ≤ n - f
  -- the number of trailing zeros is the lowest member of a set that is not empty
  pub lowest_below : (k m : ℕ) → 0 < m → m < 2 ^ k → count_trailing_zeros k m < k
  pub lowest_member : (k m : ℕ) → 0 < m → m < 2 ^ k → IsLowest (count_trailing_zeros k m) m
  -- m & (m - 1) takes the lowest member out, and nothing else
  pub cleared : (k m : ℕ) → 0 < m → m < 2 ^ k → shared m (m - 1) ≡ m - only (count_trailing_zeros k m)
  pub cleared_keeps : (k m i : ℕ) → 0 < m → m < 2 ^ k → In i m → i ≢ count_trailing_zeros k m → In i (shared m (m - 1))
  pub cleared_has : (k m i : ℕ) → 0 < m → m < 2 ^ k → In i (shared m (m - 1)) → In i m × (i ≢ count_trailing_zeros k m)
  pub cleared_count : (m : ℕ) → 0 < m → count (shared m (m - 1)) + 1 ≡ count m
  -- four craft with one faulty, eight with two
  pub of_four : quorum 4 1 ≡ 3
  pub of_eight : quorum 8 2 ≡ 6
