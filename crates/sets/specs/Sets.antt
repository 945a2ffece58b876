-- Sets of craft as numbers: bit i of a number stands for craft i. Assumes nothing.
--   labels      how many labels there are, and so the most craft that a flight has; no other definition knows it
--   bit         bit i of m, 0 or 1
--   In          craft i is a member of m
--   Within      each member of a is one of b: a is a subset of b
--   IsLowest    i is the lowest member of m
--   has         whether craft k is in s
--   inside      whether a is a subset of b
--   meeting     whether a and b have a member in common
--   union       the members of a and those of b
--   shared      the members that a and b have in common
--   less        the members of a that are not in b
--   only        the set of craft i alone
--   one_of      the set of craft i alone where i is below n, else the empty set
--   adding      s with craft k in it
--   below       all craft below n
--   count       how many members a set has
--   others      how many members of s are other than k
--   each        f of each craft of s below n, ascending
--   members_of  the members of s, ascending
--   passing     the craft below n that pass a test
use Rattle.std.specs.Prelude.{◌≡◌, ℕ, zero, suc, ◌-◌, ◌/◌, ◌%◌, ◌^◌, ◌≤◌, Bool, cond, not, List, [], ◌∷◌, ◌++◌, ◌==◌, bit_and, bit_or, count_ones, nat_lt}

abbrev pub labels : ℕ
labels = 8

abbrev pub bit : ℕ → ℕ → ℕ
bit m zero = m % 2
bit m (suc i) = bit (m / 2) i

abbrev pub In : ℕ → ℕ → Type 0
In i m = bit m i ≡ 1

abbrev pub Within : ℕ → ℕ → Type 0
Within a b = (i : ℕ) → bit a i ≤ bit b i

pub record IsLowest (i m : ℕ) : Type 0 where
  pub member : In i m
  pub least : (j : ℕ) → In j m → i ≤ j

abbrev pub has : ℕ → ℕ → Bool
has s k = s / 2 ^ k % 2 == 1

abbrev pub union : ℕ → ℕ → ℕ
union a b = bit_or a b

abbrev pub shared : ℕ → ℕ → ℕ
shared a b = bit_and a b

abbrev pub less : ℕ → ℕ → ℕ
less a b = a - shared a b

abbrev pub inside : ℕ → ℕ → Bool
inside a b = shared a b == a

abbrev pub meeting : ℕ → ℕ → Bool
meeting a b = not (shared a b == 0)

abbrev pub only : ℕ → ℕ
only i = 2 ^ i

abbrev pub one_of : ℕ → ℕ → ℕ
one_of n i = cond (nat_lt i n) (only i) 0

abbrev pub adding : ℕ → ℕ → ℕ
adding k s = union s (only k)

abbrev pub below : ℕ → ℕ
below n = 2 ^ n - 1

abbrev pub count : ℕ → ℕ
count m = count_ones m

abbrev pub others : ℕ → ℕ → ℕ
others k s = cond (has s k) (count s - 1) (count s)

unfoldable pub each : {X : Type 0} → (ℕ → X) → ℕ → ℕ → List X
each f s zero = []
each f s (suc n) = each f s n ++ cond (has s n) (f n ∷ []) []

abbrev pub members_of : ℕ → List ℕ
members_of s = each (λ i. i) s labels

unfoldable pub passing : ℕ → (ℕ → Bool) → ℕ
passing zero P = 0
passing (suc n) P = union (passing n P) (cond (P n) (only n) 0)
