-- What a carrier over a link service is made of, and what its calls do to these parts. Assumes nothing.
--   Parts           what the link service means, each craft's shelf, and the craft astray
--   parts           the parts of a store, with these craft astray
--   spare_of        the smaller of the link service's spare and the fewest free rows on a shelf
--   own_frame       the frame by which an author says a note
--   no_entry        what stands where no entry waits
--   Spoken          a new note is put to all neighbours of its author, ascending, and the empty set is held for it on the author's shelf
--   SaysOn          a say: a note that was said before changes nothing, another is spoken; refused by the carrier's causes, or by the link service's put
--   SaidBefore      a say of a note that was said before leaves the store itself as it was
--   carry_refusal   of the carrier's causes against a carry, the first that holds
--   RefusesCarry    a carry refused by it, with all parts as they were
--   MeddledTo       the frame is put from c to one craft, and c is astray
--   MeddlesOn       a meddle: refused by the carrier's causes, or by the link service's put
--   StartedOn       a link service just started, with empty shelves and nobody astray
--   StartsOn        a start, refused by the link service alone
use Rattle.std.specs.Prelude.{◌≡◌, ℕ, min, true, false, ◌⊎◌, List, [], length, Some, None, Ok, Err, Option, Result, slice_index}
use Rattle.sets.specs.Sets.{only, adding}
use Rattle.refusals.specs.declared.Fault.{Fault}
use Rattle.refusals.specs.Refusals.{Told, refusal, told}
use Rattle.frames.specs.declared.notes.Note.{Note}
use Rattle.frames.specs.declared.notes.Frame.{Frame}
use Rattle.frames.specs.declared.notes.Step.TheVariants.{Send}
use Rattle.frames.specs.Notes.{note}
use Rattle.charts.specs.declared.chart.Chart.{Chart}
use Rattle.links.specs.declared.entries.Entry.{Entry}
use Rattle.links.specs.Meanings.{entry_to}
use Rattle.links.specs.Meanings as links
use Rattle.links.specs.Calls.{Started, Appended, start_causes, put_causes}
use Rattle.shelves.specs.declared.kinds.Shelf.{Shelf}
use Rattle.shelves.specs.Lengths.{shelf_length}
use Rattle.shelves.specs.Shelves.{rows_at, heard_on, fewest, HeldAt}
use Rattle.carriers.specs.declared.store.Store.{Store}
use Rattle.carriers.specs.Judging.{saying_causes, carrying_causes, meddling_causes}

pub record Parts : Type 0 where
  pub links : links.Meaning
  pub shelves : List Shelf
  pub astray : ℕ

abbrev pub parts : {L : Type 0} → (L → links.Meaning) → Store L → ℕ → Parts
parts m s astray = record { links = m s.links; shelves = s.table.at; astray = astray }

abbrev pub spare_of : Parts → ℕ
spare_of p = min p.links.spare (fewest p.shelves)

abbrev pub own_frame : ℕ → Note → Frame
own_frame a x = record { note = x; author = a; set = 0 }

abbrev pub no_entry : Entry
no_entry = entry_to 0 (own_frame 0 (note Send 0 0 0)) 0

-- ---- say

pub record Spoken (c : Chart) (p : Parts) (a : ℕ) (x : Note) (p' : Parts) : Type 0 where
  pub put : Appended p.links a (slice_index c.rows a) (own_frame a x) p'.links
  pub held : HeldAt p.shelves a a x 0 true p'.shelves
  pub astray : p'.astray ≡ p.astray

abbrev pub SaysOn : Chart → Parts → ℕ → Note → Result Unit Fault → Parts → Type 0
SaysOn c p a x (Ok _) p' =
    (refusal (saying_causes c.n (spare_of p) a x) ≡ None)
    × (heard_on p.shelves a a x ≡ true → p' ≡ p)
    × (heard_on p.shelves a a x ≡ false → Spoken c p a x p')
SaysOn c p a x (Err e) p' =
    (p' ≡ p)
    × ((refusal (saying_causes c.n (spare_of p) a x) ≡ Some (told e))
    ⊎ ((refusal (saying_causes c.n (spare_of p) a x) ≡ None) × (refusal (put_causes p.links.rows p.links.spare a (slice_index c.rows a)) ≡ Some (told e))))

abbrev pub SaidBefore : {L : Type 0} → Store L → ℕ → Note → Result Unit Fault → Store L → Type 0
SaidBefore s a x (Ok _) s' = heard_on s.table.at a a x ≡ true → s' ≡ s
SaidBefore s a x (Err e) s' = Unit {0}

-- ---- carry

abbrev pub carry_refusal : Parts → ℕ → Option Told
carry_refusal p k = refusal (carrying_causes (length p.links.waiting) (spare_of p) k)

abbrev pub RefusesCarry : Parts → ℕ → Fault → Parts → Type 0
RefusesCarry p k e p' = (p' ≡ p) × (carry_refusal p k ≡ Some (told e))

-- ---- meddle

pub record MeddledTo (p : Parts) (c to : ℕ) (frame : Frame) (p' : Parts) : Type 0 where
  pub put : Appended p.links c (only to) frame p'.links
  pub shelves : p'.shelves ≡ p.shelves
  pub astray : p'.astray ≡ adding c p.astray

abbrev pub MeddlesOn : Chart → ℕ → Parts → ℕ → ℕ → Frame → Result Unit Fault → Parts → Type 0
MeddlesOn h f p c to frame (Ok _) p' =
    (refusal (meddling_causes h.n f (slice_index h.rows c) p.astray (spare_of p) c to) ≡ None) × MeddledTo p c to frame p'
MeddlesOn h f p c to frame (Err e) p' =
    (p' ≡ p)
    × ((refusal (meddling_causes h.n f (slice_index h.rows c) p.astray (spare_of p) c to) ≡ Some (told e))
    ⊎ ((refusal (meddling_causes h.n f (slice_index h.rows c) p.astray (spare_of p) c to) ≡ None) × (refusal (put_causes p.links.rows p.links.spare c (only to)) ≡ Some (told e))))

-- ---- start

pub record StartedOn (w : links.Meaning) (c : Chart) (p : Parts) : Type 0 where
  pub started : Started w c p.links
  pub shelves : (i : ℕ) → rows_at p.shelves i ≡ []
  pub free : fewest p.shelves ≡ shelf_length
  pub astray : p.astray ≡ 0

abbrev pub StartsOn : {L : Type 0} → (L → links.Meaning) → L → Chart → Result (Store L) Fault → Type 0
StartsOn m l c (Ok s) = StartedOn (m l) c (parts m s 0)
StartsOn m l c (Err e) = refusal (start_causes (m l)) ≡ Some (told e)
