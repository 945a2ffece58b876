-- What an iterator over a set has left. Assumes nothing.
--   members_left   the members that are still to come, ascending
use Rattle.std.specs.Prelude.{ℕ, List}
use Rattle.sets.specs.declared.iter.Ascending.{Ascending}
use Rattle.sets.specs.Sets.{members_of}

abbrev pub members_left : Ascending → List ℕ
members_left a = members_of a.left
