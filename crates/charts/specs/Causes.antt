-- Why rows make no chart, as causes in their order and in words. Assumes nothing.
--   Sized          n craft are from 2 to the number of labels, and more than three times f
--   sized          whether they are
--   size_told      refused by 2 with n
--   row_told       refused by 3 with row i
--   row_cause      row i names wrongly among n craft
--   row_causes     the same of the rows below k, one after the other
--   RowsTested     the row answered is the first that names wrongly, of as many craft as rows
--   chart_causes   the size of the chart, then its rows
--   WrongSize      in words: the size is wrong
--   WrongRow       in words: the size is right, a row names wrongly, and no row before it does
use Rattle.std.specs.Prelude.{◌≡◌, ℕ, ◌*◌, ◌<◌, ◌≤◌, Bool, not, ◌&&◌, List, [], ◌∷◌, length, Some, None, Option, nat_le, nat_lt}
use Rattle.sets.specs.Sets.{labels}
use Rattle.refusals.specs.Refusals.{Cause, Told, cause, refusal}
use Rattle.charts.specs.InTurn.{in_turn}
use Rattle.charts.specs.Rows.{FirstWrong, right}

abbrev pub Sized : ℕ → ℕ → Type 0
Sized n f = (2 ≤ n) × (n ≤ labels) × (3 * f < n)

abbrev pub sized : ℕ → ℕ → Bool
sized n f = nat_le 2 n && (nat_le n labels && nat_lt (3 * f) n)

abbrev pub size_told : ℕ → Told
size_told n = record { layer = 3; number = 2; values = n ∷ [] }

abbrev pub row_told : ℕ → Told
row_told i = record { layer = 3; number = 3; values = i ∷ [] }

abbrev pub row_cause : ℕ → List ℕ → ℕ → List Cause
row_cause n rows i = cause 3 3 (i ∷ []) (not (right n rows i)) ∷ []

abbrev pub row_causes : ℕ → List ℕ → ℕ → List Cause
row_causes n rows k = in_turn (row_cause n rows) k

abbrev pub RowsTested : List ℕ → Option ℕ → Type 0
RowsTested rows None = refusal (row_causes (length rows) rows (length rows)) ≡ None
RowsTested rows (Some i) = refusal (row_causes (length rows) rows (length rows)) ≡ Some (row_told i)

abbrev pub chart_causes : List ℕ → ℕ → List Cause
chart_causes rows f = cause 3 2 (length rows ∷ []) (not (sized (length rows) f)) ∷ row_causes (length rows) rows (length rows)

pub record WrongSize (rows : List ℕ) (f : ℕ) (t : Told) : Type 0 where
  pub says : t ≡ size_told (length rows)
  pub wrong : Sized (length rows) f → ⊥

pub record WrongRow (rows : List ℕ) (f : ℕ) (t : Told) : Type 0 where
  pub row : ℕ
  pub there : row < length rows
  pub says : t ≡ row_told row
  pub size : Sized (length rows) f
  pub first : FirstWrong (length rows) rows row
