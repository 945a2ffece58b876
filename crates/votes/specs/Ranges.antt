-- Which labels and numbers have a place in the lists of votes. Assumes nothing.
--   InRange    a craft, an origin and a number
--   InTable    n, a listener, an author, and the order of a note
use Rattle.std.specs.Prelude.{ℕ, ◌<◌, ◌≤◌}
use Rattle.sets.specs.Sets.{labels}
use Rattle.frames.specs.declared.notes.Note.{Note}
use Rattle.frames.specs.Notes.{last_number}

pub record InRange (c o k : ℕ) : Type 0 where
  pub craft : c < labels
  pub origin : o < labels
  pub number : k ≤ last_number

pub record InTable (n l a : ℕ) (x : Note) : Type 0 where
  pub few : n ≤ labels
  pub listener : l < labels
  pub author : a < labels
  pub origin : x.origin < labels
  pub number : x.number ≤ last_number
