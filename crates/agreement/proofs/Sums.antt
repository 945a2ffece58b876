-- Sums over the numbers below n. Assumes nothing.
--   sum_none, sum_next
--               no numbers, and one more
--   sum_bound   n numbers of at most b
--   sum_mono    none smaller
--   sum_more    one of them larger by d
use Rattle.std.proofs.Common.{◌≡◌, ℕ, zero, suc, ◌+◌, ◌*◌, ◌<◌, ◌≤◌, ap, refl, ⊎_elim, arith}
use Rattle.std.proofs.lemmas.Bool.{cases_eq}
use Rattle.agreement.specs.Flights.{sum}

pub sum_none : (F : ℕ → ℕ) → sum 0 F ≡ 0
unfolding sum
sum_none F = refl

pub sum_next : (n : ℕ) (F : ℕ → ℕ) → sum (n + 1) F ≡ sum n F + F n
unfolding sum
sum_next n F = let e : n + 1 ≡ suc n = omega arith in ap (λ (i : ℕ). sum i F) e

pub sum_bound : (n b : ℕ) (F : ℕ → ℕ) → ((i : ℕ) → F i ≤ b) → sum n F ≤ n * b
unfolding sum
sum_bound zero b F h = omega arith
sum_bound (suc n) b F h = omega (arith, sum_bound n b F h, h n)

pub sum_mono : (n : ℕ) (F G : ℕ → ℕ) → ((i : ℕ) → F i ≤ G i) → sum n F ≤ sum n G
unfolding sum
sum_mono zero F G h = omega arith
sum_mono (suc n) F G h = omega (arith, sum_mono n F G h, h n)

-- one of them larger by d
pub sum_more : (n : ℕ) (F G : ℕ → ℕ) (i d : ℕ) → ((j : ℕ) → F j ≤ G j) → i < n → F i + d ≤ G i → sum n F + d ≤ sum n G
unfolding sum
sum_more zero F G i d h l e = absurd (omega arith)
sum_more (suc n) F G i d h l e = ⊎_elim
    (λ (q : i ≡ n). omega (arith, sum_mono n F G h, ap F q, ap G q, e))
    (λ ne. omega (arith, sum_more n F G i d h (omega arith) e, h n))
    (cases_eq i n)
