-- Hitting sets: craft of which every set of a family has one. Assumes nothing.
--   Hits           h has a craft of each set of the family
--   hits           whether it has
--   all_of         the craft of all sets of the family: no others are needed to hit it
--   tried          whether one of the sets below w has at most k craft and hits the family
--   hittable       whether some set of at most k craft hits the family: those within its craft are among the sets tried
--   Hittable       some set of at most k craft hits the family
--   HittableWith   at most k craft more, together with those of c, hit the family: what the search decides on its way
use Rattle.std.specs.Prelude.{ℕ, zero, suc, ◌<◌, ◌≤◌, Bool, true, false, ◌&&◌, ◌||◌, List, [], ◌∷◌, nat_le}
use Rattle.std.specs.List.{AllByRecursion}
use Rattle.sets.specs.Sets.{shared, union, meeting, count}

abbrev pub Hits : ℕ → List ℕ → Type 0
Hits h ss = AllByRecursion (λ s. 0 < shared s h) ss

abbrev pub hits : ℕ → List ℕ → Bool
hits h [] = true
hits h (s ∷ ss) = meeting s h && hits h ss

abbrev pub all_of : List ℕ → ℕ
all_of [] = 0
all_of (s ∷ ss) = union s (all_of ss)

unfoldable pub tried : ℕ → List ℕ → ℕ → Bool
tried k ss zero = false
tried k ss (suc h) = (nat_le (count h) k && hits h ss) || tried k ss h

unfoldable pub hittable : ℕ → List ℕ → Bool
hittable k ss = tried k ss (suc (all_of ss))

abbrev pub Hittable : ℕ → List ℕ → Type 0
Hittable k ss = (h : ℕ) × (count h ≤ k) × Hits h ss

abbrev pub HittableWith : List ℕ → ℕ → ℕ → Type 0
HittableWith ss c k = (h : ℕ) × (count h ≤ k) × Hits (union c h) ss
