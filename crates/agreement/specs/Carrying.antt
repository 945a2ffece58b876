-- The calls of a carrier: what each refuses, in which order, and what it leaves. The carrier is layer 3. Assumes nothing.
--   say_causes      the author is no craft (1), the note is not sound by it (5)
--   carry_causes    the index is not below the count of what waits (7)
--   linked          whether the chart has a link from one craft to another
--   meddle_causes   the meddler is no craft (1), nor the craft that it meddles to (1); there is no link (9); f others are astray (10)
--   spent           no room is left (8): tested after all others, in each of the three
--   Fixed           n, f and the chart are as they were
--   Adds            exactly this listener, author and note are heard in addition
--   Silent          nothing is heard in addition
--   Said            what an accepted say leaves, where one say adds at most g to the toil; a note said again changes nothing
--   Quiet           what an accepted carry leaves that lets nobody hear
--   Hears           what an accepted carry leaves that lets l hear the note t of a: new, sound, and not l's own
--   Meddled         what an accepted meddle by c leaves: c is astray from now on
--   Says, CarriesQuiet, CarriesHeard, CarryRefused, Meddles
--                   each call whole: none of its causes holds, and it leaves that; or the first that holds is told, and nothing changes
use Rattle.std.specs.Prelude.{◌≡◌, ℕ, ◌+◌, ◌<◌, ◌≤◌, Bool, true, false, not, ◌&&◌, ◌||◌, List, [], ◌∷◌, ◌++◌, Some, None, Option, ◌==◌, nat_le, slice_index}
use Rattle.sets.specs.Sets.{has, adding, others}
use Rattle.refusals.specs.Refusals.{Told, Cause, cause, refusal}
use Rattle.frames.specs.declared.notes.Note.{Note}
use Rattle.frames.specs.Notes.{sound, same_note}
use Rattle.agreement.specs.Meanings.{Meaning}

abbrev pub say_causes : Meaning → ℕ → Note → List Cause
say_causes m a t = cause 3 1 (a ∷ []) (nat_le m.n a) ∷ cause 3 5 (t.number ∷ []) (not (sound m.n a t)) ∷ []

abbrev pub carry_causes : Meaning → ℕ → List Cause
carry_causes m i = cause 3 7 (m.waiting ∷ []) (nat_le m.waiting i) ∷ []

abbrev pub linked : Meaning → ℕ → ℕ → Bool
linked m c to = has (slice_index m.chart c) to

abbrev pub meddle_causes : Meaning → ℕ → ℕ → List Cause
meddle_causes m c to =
    cause 3 1 (c ∷ []) (nat_le m.n c)
    ∷ cause 3 1 (to ∷ []) (nat_le m.n to)
    ∷ cause 3 9 (c ∷ []) (not (linked m c to))
    ∷ cause 3 10 (c ∷ []) (nat_le m.f (others c m.astray))
    ∷ []

abbrev pub spent : Meaning → List Cause
spent m = cause 3 8 (m.spare ∷ []) (m.spare == 0) ∷ []

pub record Fixed (m m' : Meaning) : Type 0 where
  pub n : m'.n ≡ m.n
  pub f : m'.f ≡ m.f
  pub chart : m'.chart ≡ m.chart

pub record Adds (m : Meaning) (l a : ℕ) (t : Note) (m' : Meaning) : Type 0 where
  pub at : (l' a' : ℕ) (t' : Note) → m'.heard l' a' t' ≡ (m.heard l' a' t' || (l == l' && (a == a' && same_note t t')))

pub record Silent (m m' : Meaning) : Type 0 where
  pub at : (l a : ℕ) (t : Note) → m'.heard l a t ≡ m.heard l a t

pub record Said (g : ℕ) (m : Meaning) (a : ℕ) (t : Note) (m' : Meaning) : Type 0 where
  pub fixed : Fixed m m'
  pub heard : Adds m a a t m'
  pub again : m.heard a a t ≡ true → m' ≡ m
  pub astray : m'.astray ≡ m.astray
  pub toil : m'.toil ≤ m.toil + g
  pub spare : m.spare ≤ m'.spare + 1

pub record Quiet (m m' : Meaning) : Type 0 where
  pub fixed : Fixed m m'
  pub heard : Silent m m'
  pub astray : m'.astray ≡ m.astray
  pub toil : m'.toil + 1 ≤ m.toil
  pub spare : m.spare ≤ m'.spare + 1

pub record Hears (m : Meaning) (l a : ℕ) (t : Note) (m' : Meaning) : Type 0 where
  pub fixed : Fixed m m'
  pub new : m.heard l a t ≡ false
  pub listener : l < m.n
  pub author : a < m.n
  pub apart : l ≡ a → ⊥
  pub sound : sound m.n a t ≡ true
  pub heard : Adds m l a t m'
  pub astray : m'.astray ≡ m.astray
  pub toil : m'.toil + 1 ≤ m.toil
  pub spare : m.spare ≤ m'.spare + 1

pub record Meddled (m : Meaning) (c : ℕ) (m' : Meaning) : Type 0 where
  pub fixed : Fixed m m'
  pub heard : Silent m m'
  pub astray : m'.astray ≡ adding c m.astray
  pub spare : m.spare ≤ m'.spare + 1

abbrev pub Says : ℕ → Meaning → ℕ → Note → Option Told → Meaning → Type 0
Says g m a t None m' = (refusal (say_causes m a t ++ spent m) ≡ None) × Said g m a t m'
Says g m a t (Some v) m' = (refusal (say_causes m a t ++ spent m) ≡ Some v) × (m' ≡ m)

abbrev pub CarriesQuiet : Meaning → ℕ → Meaning → Type 0
CarriesQuiet m i m' = (refusal (carry_causes m i ++ spent m) ≡ None) × Quiet m m'

abbrev pub CarriesHeard : Meaning → ℕ → ℕ → ℕ → Note → Meaning → Type 0
CarriesHeard m i l a t m' = (refusal (carry_causes m i ++ spent m) ≡ None) × Hears m l a t m'

abbrev pub CarryRefused : Meaning → ℕ → Told → Meaning → Type 0
CarryRefused m i v m' = (refusal (carry_causes m i ++ spent m) ≡ Some v) × (m' ≡ m)

abbrev pub Meddles : Meaning → ℕ → ℕ → Option Told → Meaning → Type 0
Meddles m c to None m' = (refusal (meddle_causes m c to ++ spent m) ≡ None) × Meddled m c m'
Meddles m c to (Some v) m' = (refusal (meddle_causes m c to ++ spent m) ≡ Some v) × (m' ≡ m)
