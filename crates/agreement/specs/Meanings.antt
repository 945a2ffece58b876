-- What a carrier means, whatever it is made of, and the two laws that it keeps. Assumes nothing.
--   Meaning     how many craft there are (n) and how many may go astray at most (f), the chart by rows, who heard which note of whom,
--               how many frames wait, the set of the craft astray, the spare and the toil; `heard a a t` says that a said t
--   Honest      i is a craft that is not astray
--   Limits      at least two craft and no more than there are labels, of which fewer than a third may go astray
--   Lawful      the limits, and the two laws:
--                 nothing_invented   what an honest craft heard of an honest author, that author said
--                 nothing_lost       when nothing waits, what an honest author said every honest craft heard
--   Fresh       a carrier that nothing was done with: nothing heard, nothing waiting, nobody astray, a spare of at least 64
use Rattle.std.specs.Prelude.{◌≡◌, ℕ, ◌*◌, ◌<◌, ◌≤◌, Bool, true, false, List}
use Rattle.sets.specs.Sets.{labels, bit}
use Rattle.frames.specs.declared.notes.Note.{Note}

pub record Meaning : Type 0 where
  pub n : ℕ
  pub f : ℕ
  pub chart : List ℕ
  pub heard : ℕ → ℕ → Note → Bool
  pub waiting : ℕ
  pub astray : ℕ
  pub spare : ℕ
  pub toil : ℕ

pub record Honest (m : Meaning) (i : ℕ) : Type 0 where
  pub below : i < m.n
  pub loyal : bit m.astray i ≡ 0

pub record Limits (m : Meaning) : Type 0 where
  pub least : 2 ≤ m.n
  pub most : m.n ≤ labels
  pub few : 3 * m.f < m.n

pub record Lawful (m : Meaning) : Type 0 where
  pub limits : Limits m
  pub nothing_invented : (l a : ℕ) (t : Note) → Honest m l → Honest m a → m.heard l a t ≡ true → m.heard a a t ≡ true
  pub nothing_lost : m.waiting ≡ 0 → (l a : ℕ) (t : Note) → Honest m l → Honest m a → m.heard a a t ≡ true → m.heard l a t ≡ true

pub record Fresh (m : Meaning) : Type 0 where
  pub heard : (l a : ℕ) (t : Note) → m.heard l a t ≡ false
  pub waiting : m.waiting ≡ 0
  pub astray : m.astray ≡ 0
  pub spare : 64 ≤ m.spare
