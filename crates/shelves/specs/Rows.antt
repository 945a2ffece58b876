-- The rows of one craft: what is held for an author and a note. Assumes nothing.
--   row_of      the row of an author, a note and a set
--   keyed       the row is for this author and note
--   covers      the row holds a set within u for this author and note
--   covered     some row does; the author's note was heard where the empty set is covered
--   heard_in    the author's note was heard
--   stays       the row is for another author or note, or its set does not contain u
--   holding     the rows that stay, and u held for this author and note, last
use Rattle.std.specs.Prelude.{ℕ, Bool, not, ◌&&◌, List, [], ◌∷◌, ◌++◌, filter, ◌==◌}
use Rattle.std.specs.List.{list_any}
use Rattle.sets.specs.Sets.{inside}
use Rattle.frames.specs.declared.notes.Note.{Note}
use Rattle.frames.specs.Notes.{same_note}
use Rattle.shelves.specs.declared.kinds.Row.{Row}

abbrev pub row_of : ℕ → Note → ℕ → Row
row_of a x u = record { note = x; author = a; held = u }

abbrev pub keyed : ℕ → Note → Row → Bool
keyed a x r = r.author == a && same_note r.note x

abbrev pub covers : ℕ → Note → ℕ → Row → Bool
covers a x u r = keyed a x r && inside r.held u

abbrev pub covered : List Row → ℕ → Note → ℕ → Bool
covered rs a x u = list_any (covers a x u) rs

abbrev pub heard_in : List Row → ℕ → Note → Bool
heard_in rs a x = covered rs a x 0

abbrev pub stays : ℕ → Note → ℕ → Row → Bool
stays a x u r = not (keyed a x r && inside u r.held)

abbrev pub holding : List Row → ℕ → Note → ℕ → List Row
holding rs a x u = filter (stays a x u) rs ++ row_of a x u ∷ []
