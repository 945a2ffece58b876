-- Shelves of rows, one for each craft. Assumes nothing.
--   rows_of      what a shelf holds
--   empty_shelf  a shelf with no row
--   shelf_at     craft p's shelf
--   rows_at      what craft p holds
--   heard_on     the listener's shelf says that it heard the author's note
--   room         whether the rows that stay leave a place for one more
--   Held         what holding a set does to one craft's rows: it is held, or there is no room, and nothing changes
--   fewest       the fewest free rows on a shelf
--   HeldAt       the same of all craft: the others keep their rows, and at most one row fewer is free
--   HoldsAt      the same where the label may be none; then nothing changes
use Rattle.std.specs.Prelude.{◌≡◌, ℕ, zero, suc, ◌+◌, ◌-◌, ◌≤◌, min, Bool, false, cond, List, [], length, MatchBool, filter, ◌≢◌, nat_lt, slice_index_or}
use Rattle.std.proofs.Common.{zero-le}
use Rattle.sets.specs.Sets.{labels}
use Rattle.frames.specs.declared.notes.Note.{Note}
use Rattle.shelves.specs.declared.kinds.Row.{Row}
use Rattle.shelves.specs.declared.kinds.Shelf.{Shelf}
use Rattle.shelves.specs.Lengths.{shelf_length}
use Rattle.shelves.specs.Rows.{stays, holding, heard_in}

abbrev pub rows_of : Shelf → List Row
rows_of s = s.rows.items

abbrev pub empty_shelf : Shelf
empty_shelf = record { rows = record { items = [] }; few = zero-le }

abbrev pub shelf_at : List Shelf → ℕ → Shelf
shelf_at ss p = slice_index_or ss p empty_shelf

abbrev pub rows_at : List Shelf → ℕ → List Row
rows_at ss p = rows_of (shelf_at ss p)

abbrev pub heard_on : List Shelf → ℕ → ℕ → Note → Bool
heard_on ss l a x = heard_in (rows_at ss l) a x

abbrev pub room : List Row → ℕ → Note → ℕ → Bool
room rs a x u = nat_lt (length (filter (stays a x u) rs)) shelf_length

abbrev pub Held : List Row → ℕ → Note → ℕ → Bool → List Row → Type 0
Held rs a x u r rs' = (r ≡ room rs a x u) × (rs' ≡ cond r (holding rs a x u) rs)

abbrev pub fewest_below : List Shelf → ℕ → ℕ
fewest_below ss zero = shelf_length
fewest_below ss (suc k) = min (shelf_length - length (rows_at ss k)) (fewest_below ss k)

abbrev pub fewest : List Shelf → ℕ
fewest ss = fewest_below ss labels

pub record HeldAt (ss : List Shelf) (p a : ℕ) (x : Note) (u : ℕ) (r : Bool) (ss' : List Shelf) : Type 0 where
  pub here : Held (rows_at ss p) a x u r (rows_at ss' p)
  pub others : (q : ℕ) → (q ≢ p) → rows_at ss' q ≡ rows_at ss q
  pub free : fewest ss ≤ fewest ss' + 1

abbrev pub HoldsAt : List Shelf → ℕ → ℕ → Note → ℕ → Bool → List Shelf → Type 0
HoldsAt ss p a x u r ss' = MatchBool (nat_lt p labels) (HeldAt ss p a x u r ss') ((r ≡ false) × (ss' ≡ ss))
