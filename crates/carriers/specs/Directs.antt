-- The direct carrier: what it means, what each call does to its parts, and what ties these to one another. Assumes nothing.
--   rows_of_chart   each craft's neighbours, one row for each craft
--   meaning_of      the direct carrier as a carrier, by its chart and its parts; its toil is the count of what waits
--   parts_of        the parts of a direct carrier
--   means           the meaning of a direct carrier
--   straight        the entry came over a link, from the author of its note, with no set, and the note is sound
--   heard_of        what an entry lets its receiver hear
--   hearing         what carrying an entry tells, where h was heard: its note, if it is straight and new
--   hearing_of      what carrying the frame at an index tells
--   SaysDirect, MeddlesDirect   a say and a meddle, as of every carrier over a link service; a note that was said before changes nothing at all
--   KeptTold        what is told stands as the last row of the listener's shelf; no other shelf changes, and nothing told changes none
--   TakenOn         none of the carrier's causes holds; the entry at an index is gone from the links, and what it tells is kept
--   CarriesDirect   a carry that is accepted takes an entry on; refused, it tells the first of the carrier's causes and leaves all parts as they were
--   Linked          the entry goes from one craft to another
--   Truthful        a craft that is not astray sends only what it said, as its own frame
--   Flows           among n craft, with these astray, h was heard and ws waits:
--                     what was said is sound; what was heard of a craft not astray it said; what was said was heard by each other craft, or waits for it
--   Fitting         the link service has this chart, and what was heard and what waits fit
--   Sound           the same of a direct carrier
--   Opened          a direct carrier just opened on a chart: its shelves are empty, and its links started with nothing waiting
--   Opens           opening is refused by the link service's start alone
use Rattle.std.specs.Prelude.{◌≡◌, ℕ, ◌<◌, Bool, true, false, cond, not, ◌&&◌, ◌⊎◌, List, length, Some, None, Ok, Err, Option, Result, ◌==◌, ◌≢◌, nat_lt, slice_index_or}
use Rattle.std.specs.List.{ContainsAt as Has, AllByRecursion}
use Rattle.sets.specs.Sets.{has}
use Rattle.refusals.specs.declared.Fault.{Fault}
use Rattle.refusals.specs.Refusals.{refusal, told}
use Rattle.frames.specs.declared.notes.Note.{Note}
use Rattle.frames.specs.declared.notes.Frame.{Frame}
use Rattle.frames.specs.Notes.{sound}
use Rattle.cuts.specs.declared.complete.CompleteChart.{CompleteChart}
use Rattle.links.specs.declared.entries.Entry.{Entry}
use Rattle.links.specs.Meanings.{chart_rows, entry_to}
use Rattle.links.specs.Meanings as links
use Rattle.links.specs.Calls.{Taken, start_causes}
use Rattle.shelves.specs.declared.kinds.Shelf.{Shelf}
use Rattle.shelves.specs.Shelves.{heard_on, HeldAt}
use Rattle.agreement.specs.Meanings.{Meaning, Fresh}
use Rattle.carriers.specs.declared.heard.Heard.{Heard}
use Rattle.carriers.specs.declared.direct.Direct.{Direct}
use Rattle.carriers.specs.Parts.{Parts, parts, spare_of, own_frame, no_entry, SaysOn, SaidBefore, carry_refusal, RefusesCarry, MeddlesOn, StartedOn}

-- ---- what it means

abbrev pub rows_of_chart : CompleteChart → List ℕ
rows_of_chart c = chart_rows c.chart

abbrev pub meaning_of : CompleteChart → Parts → Meaning
meaning_of c p = record {
  n = c.chart.n;
  f = c.f;
  chart = rows_of_chart c;
  heard = heard_on p.shelves;
  waiting = length p.links.waiting;
  astray = p.astray;
  spare = spare_of p;
  toil = length p.links.waiting;
}

abbrev pub parts_of : {L : Type 0} → (L → links.Meaning) → Direct L → Parts
parts_of m d = parts m d.store d.astray

abbrev pub means : {L : Type 0} → (L → links.Meaning) → Direct L → Meaning
means m d = meaning_of d.complete (parts_of m d)

-- ---- what a carry tells

abbrev pub straight : ℕ → Entry → Bool
straight n e =
    nat_lt e.to n && (nat_lt e.from n && (not (e.from == e.to)
    && (e.frame.author == e.from && (e.frame.set == 0 && sound n e.frame.author e.frame.note))))

abbrev pub heard_of : Entry → Heard
heard_of e = record { note = e.frame.note; listener = e.to; author = e.from }

abbrev pub hearing : ℕ → (ℕ → ℕ → Note → Bool) → Entry → Option Heard
hearing n h e = cond (straight n e) (cond (h e.to e.from e.frame.note) None (Some (heard_of e))) None

abbrev pub hearing_of : {L : Type 0} → (L → links.Meaning) → Direct L → ℕ → Option Heard
hearing_of m d k = hearing d.complete.chart.n (heard_on d.store.table.at) (slice_index_or (m d.store.links).waiting k no_entry)

-- ---- what each call does

abbrev pub SaysDirect : {L : Type 0} → (L → links.Meaning) → Direct L → ℕ → Note → Result Unit Fault → Direct L → Type 0
SaysDirect m d a x r d' =
    SaysOn d.complete.chart (parts_of m d) a x r (parts_of m d') × SaidBefore d.store a x r d'.store × (d'.complete ≡ d.complete)

abbrev pub MeddlesDirect : {L : Type 0} → (L → links.Meaning) → Direct L → ℕ → ℕ → Frame → Result Unit Fault → Direct L → Type 0
MeddlesDirect m d c to frame r d' =
    MeddlesOn d.complete.chart d.complete.f (parts_of m d) c to frame r (parts_of m d') × (d'.complete ≡ d.complete)

abbrev pub KeptTold : List Shelf → Option Heard → List Shelf → Type 0
KeptTold at None at' = at' ≡ at
KeptTold at (Some h) at' = HeldAt at h.listener h.author h.note 0 true at'

pub record TakenOn (n : ℕ) (p : Parts) (k : ℕ) (t : Option Heard) (p' : Parts) : Type 0 where
  pub accepted : carry_refusal p k ≡ None
  pub entry : Entry
  pub taken : Taken p.links k entry p'.links
  pub answer : t ≡ hearing n (heard_on p.shelves) entry
  pub kept : KeptTold p.shelves t p'.shelves
  pub astray : p'.astray ≡ p.astray

abbrev pub CarriesDirect : {L : Type 0} → (L → links.Meaning) → Direct L → ℕ → Result (Option Heard) Fault → Direct L → Type 0
CarriesDirect m d k (Ok t) d' = TakenOn d.complete.chart.n (parts_of m d) k t (parts_of m d') × (d'.complete ≡ d.complete)
CarriesDirect m d k (Err e) d' = RefusesCarry (parts_of m d) k e (parts_of m d') × (d'.complete ≡ d.complete)

-- ---- what fits

pub record Linked (n : ℕ) (e : Entry) : Type 0 where
  pub from : e.from < n
  pub to : e.to < n
  pub apart : e.from ≡ e.to → ⊥

pub record Truthful (astray : ℕ) (h : ℕ → ℕ → Note → Bool) (e : Entry) : Type 0 where
  pub own : has astray e.from ≡ false → (e.frame ≡ own_frame e.from e.frame.note) × (h e.from e.from e.frame.note ≡ true)

pub record Flows (n astray : ℕ) (h : ℕ → ℕ → Note → Bool) (ws : List Entry) : Type 0 where
  pub linked : AllByRecursion (Linked n) ws
  pub truthful : AllByRecursion (Truthful astray h) ws
  pub sound : (a : ℕ) (x : Note) → h a a x ≡ true → sound n a x ≡ true
  pub said : (l a : ℕ) (x : Note) → has astray a ≡ false → h l a x ≡ true → h a a x ≡ true
  pub due : (l a : ℕ) (x : Note) → l < n → a < n → (l ≢ a) → h a a x ≡ true → (h l a x ≡ true) ⊎ Has ws (entry_to a (own_frame a x) l)

pub record Fitting (c : CompleteChart) (p : Parts) : Type 0 where
  pub rows : p.links.rows ≡ rows_of_chart c
  pub flows : Flows c.chart.n p.astray (heard_on p.shelves) p.links.waiting

abbrev pub Sound : {L : Type 0} → (L → links.Meaning) → Direct L → Type 0
Sound m d = Fitting d.complete (parts_of m d)

-- ---- opening

pub record Opened {L : Type 0} (m : L → links.Meaning) (l : L) (c : CompleteChart) (d : Direct L) : Type 0 where
  pub started : StartedOn (m l) c.chart (parts_of m d)
  pub complete : d.complete ≡ c
  pub fresh : Fresh (means m d)
  pub kept : Sound m d

abbrev pub Opens : {L : Type 0} → (L → links.Meaning) → L → CompleteChart → Result (Direct L) Fault → Type 0
Opens m l c (Ok d) = Opened m l c d
Opens m l c (Err e) = refusal (start_causes (m l)) ≡ Some (told e)
