-- The rows of a chart: row i is the set of the neighbours of craft i. Assumes nothing.
--   Linked       row a names craft b
--   Right        row i names rightly among n craft: never craft i, only craft below n, and only craft whose rows name i
--   Sound        every row names rightly
--   Apart        no row names its own craft
--   Bounded      only craft below n are named
--   Mutual       who is named names back
--   FirstWrong   row i names wrongly, and no row before it does
--   padded       rows, and empty rows after them, one row for each label in all
--   answered     whether each craft below k that row i names, names i
--   right        whether row i names rightly among n craft
use Rattle.std.specs.Prelude.{ℕ, zero, suc, ◌-◌, ◌<◌, Bool, true, not, ◌&&◌, ◌||◌, List, ◌++◌, length, replicate, ◌≢◌, slice_index}
use Rattle.sets.specs.Sets.{labels, In, has, inside, below}

abbrev pub Linked : List ℕ → ℕ → ℕ → Type 0
Linked rows a b = In b (slice_index rows a)

abbrev pub Right : ℕ → List ℕ → ℕ → Type 0
Right n rows i = (j : ℕ) → Linked rows i j → (j ≢ i) × (j < n) × Linked rows j i

abbrev pub Sound : ℕ → List ℕ → Type 0
Sound n rows = (i : ℕ) → Right n rows i

abbrev pub Apart : List ℕ → Type 0
Apart rows = (i : ℕ) → Linked rows i i → ⊥

abbrev pub Bounded : ℕ → List ℕ → Type 0
Bounded n rows = (i j : ℕ) → Linked rows i j → j < n

abbrev pub Mutual : List ℕ → Type 0
Mutual rows = (i j : ℕ) → Linked rows i j → Linked rows j i

pub record FirstWrong (n : ℕ) (rows : List ℕ) (i : ℕ) : Type 0 where
  pub wrong : Right n rows i → ⊥
  pub before : (j : ℕ) → j < i → Right n rows j

abbrev pub padded : List ℕ → List ℕ
padded rows = rows ++ replicate (labels - length rows) 0

unfoldable pub answered : List ℕ → ℕ → ℕ → Bool
answered rows i zero = true
answered rows i (suc k) = (not (has (slice_index rows i) k) || has (slice_index rows k) i) && answered rows i k

abbrev pub right : ℕ → List ℕ → ℕ → Bool
right n rows i = inside (slice_index rows i) (below n) && (not (has (slice_index rows i) i) && answered rows i n)
