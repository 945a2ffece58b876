-- The relay in code: what it means, and what each call does to its parts. Assumes nothing.
--   setting         what stays fixed, by the chart that passed
--   state           the relay's state, by its parts
--   meaning_of      the relay as a carrier, by its chart and its parts
--   means           the same of a relay
--   heard_by        what an entry lets its receiver hear
--   telling         what carrying an entry tells: its note, if the receiver's step ends in hearing
--   telling_of      what carrying the frame at an index tells
--   SaysRelay, MeddlesRelay   a say and a meddle, as of every carrier over a link service
--   CarriedOn       an accepted carry: none of the carrier's causes holds, the entry e is taken, its receiver takes the step, and what goes on is put; the link service keeps its chart and memory
--   Stopped         none of the carrier's causes holds, the entry is taken and its receiver took the step, but the link service refuses what goes on; where the relay is sound this cannot be
--   CarriesRelay    a carry: accepted; or refused by the first of the carrier's causes, with nothing changed; or stopped
--   Fitting         the link service has this chart, and the state is one that says, carries and meddles led to from a fresh one
--   Sound           the same of a relay
--   Opened          a relay just opened on a chart that passed: its shelves are empty, and its links started with nothing waiting
--   Opens           opening is refused by the link service's start alone
use Rattle.std.specs.Prelude.{◌≡◌, ℕ, ◌+◌, ◌≤◌, cond, ◌⊎◌, length, Some, None, Ok, Err, Option, Result, ◌≢◌, slice_index_or}
use Rattle.refusals.specs.declared.Fault.{Fault}
use Rattle.refusals.specs.Refusals.{refusal, told}
use Rattle.frames.specs.declared.notes.Note.{Note}
use Rattle.frames.specs.declared.notes.Frame.{Frame}
use Rattle.cuts.specs.declared.passed.PassedChart.{PassedChart}
use Rattle.links.specs.declared.entries.Entry.{Entry}
use Rattle.links.specs.Meanings.{chart_rows}
use Rattle.links.specs.Meanings as links
use Rattle.links.specs.Calls.{Kept, Taken, start_causes, put_causes}
use Rattle.shelves.specs.Shelves.{rows_at, heard_on}
use Rattle.pathsets.specs.Outcomes.{is_heard, told_by}
use Rattle.relaying.specs.States.{Setting, State, stepped_at, Carries}
use Rattle.relaying.specs.Laws.{Reached}
use Rattle.relaying.specs.Toil.{toil}
use Rattle.agreement.specs.Meanings.{Meaning, Fresh}
use Rattle.carriers.specs.declared.heard.Heard.{Heard}
use Rattle.carriers.specs.Parts.{no_entry, Parts, spare_of, SaysOn, carry_refusal, RefusesCarry, MeddlesOn, StartedOn}
use Rattle.bases.specs.Parts.{parts}
use Rattle.relay.specs.declared.kinds.Relay.{Relay}

-- ---- what it means

abbrev pub setting : PassedChart → Setting
setting c = record { n = c.chart.n; f = c.f; chart = c.chart.rows; few = c.chart.few.1 }

abbrev pub state : Parts → State
state p = record { shelf = rows_at p.shelves; waiting = p.links.waiting; astray = p.astray }

abbrev pub meaning_of : PassedChart → Parts → Meaning
meaning_of c p = record {
  n = c.chart.n;
  f = c.f;
  chart = chart_rows c.chart;
  heard = heard_on p.shelves;
  waiting = length p.links.waiting;
  astray = p.astray;
  spare = spare_of p;
  toil = toil (setting c) (state p);
}

abbrev pub means : {L : Type 0} → (L → links.Meaning) → Relay L → Meaning
means m r = meaning_of r.passed (parts m r.base)

-- ---- what a carry tells

abbrev pub heard_by : Entry → Heard
heard_by e = record { note = e.frame.note; listener = e.to; author = e.frame.author }

abbrev pub telling : PassedChart → Parts → Entry → Option Heard
telling c p e = cond (is_heard (stepped_at (setting c) (state p) e).out) (Some (heard_by e)) None

abbrev pub telling_of : {L : Type 0} → (L → links.Meaning) → Relay L → ℕ → Option Heard
telling_of m r k = telling r.passed (parts m r.base) (slice_index_or (m r.base.store.links).waiting k no_entry)

-- ---- what each call does

abbrev pub SaysRelay : {L : Type 0} → (L → links.Meaning) → Relay L → ℕ → Note → Result Unit Fault → Relay L → Type 0
SaysRelay m r a x o r' = SaysOn r.passed.chart (parts m r.base) a x o (parts m r'.base) × (r'.passed ≡ r.passed)

abbrev pub MeddlesRelay : {L : Type 0} → (L → links.Meaning) → Relay L → ℕ → ℕ → Frame → Result Unit Fault → Relay L → Type 0
MeddlesRelay m r c to frame o r' =
    MeddlesOn r.passed.chart r.passed.f (parts m r.base) c to frame o (parts m r'.base) × (r'.passed ≡ r.passed)

pub record CarriedOn (c : PassedChart) (p : Parts) (k : ℕ) (e : Entry) (t : Option Heard) (p' : Parts) : Type 0 where
  pub accepted : carry_refusal p k ≡ None
  pub carries : Carries (setting c) (state p) k e (state p')
  pub answer : t ≡ telling c p e
  pub kept : Kept p.links p'.links
  pub spare : spare_of p ≤ spare_of p' + 1

pub record Stopped (c : PassedChart) (p : Parts) (k : ℕ) (x : Fault) (p' : Parts) : Type 0 where
  pub accepted : carry_refusal p k ≡ None
  pub entry : Entry
  pub taken : Taken p.links k entry p'.links
  pub own : rows_at p'.shelves entry.to ≡ (stepped_at (setting c) (state p) entry).rows
  pub other : (i : ℕ) → (i ≢ entry.to) → rows_at p'.shelves i ≡ rows_at p.shelves i
  pub astray : p'.astray ≡ p.astray
  pub refused : refusal (put_causes p'.links.rows p'.links.spare entry.to (told_by (stepped_at (setting c) (state p) entry).out)) ≡ Some (told x)

abbrev pub CarriesRelay : {L : Type 0} → (L → links.Meaning) → Relay L → ℕ → Result (Option Heard) Fault → Relay L → Type 0
CarriesRelay m r k (Ok t) r' = ((e : Entry) × CarriedOn r.passed (parts m r.base) k e t (parts m r'.base)) × (r'.passed ≡ r.passed)
CarriesRelay m r k (Err e) r' =
    (RefusesCarry (parts m r.base) k e (parts m r'.base) ⊎ Stopped r.passed (parts m r.base) k e (parts m r'.base)) × (r'.passed ≡ r.passed)

-- ---- what ties the parts to one another

pub record Fitting (c : PassedChart) (p : Parts) : Type 0 where
  pub rows : p.links.rows ≡ chart_rows c.chart
  pub reached : Reached (setting c) (state p)

abbrev pub Sound : {L : Type 0} → (L → links.Meaning) → Relay L → Type 0
Sound m r = Fitting r.passed (parts m r.base)

-- ---- opening

pub record Opened {L : Type 0} (m : L → links.Meaning) (l : L) (c : PassedChart) (r : Relay L) : Type 0 where
  pub started : StartedOn (m l) c.chart (parts m r.base)
  pub passed : r.passed ≡ c
  pub fresh : Fresh (means m r)
  pub kept : Sound m r

abbrev pub Opens : {L : Type 0} → (L → links.Meaning) → L → PassedChart → Result (Relay L) Fault → Type 0
Opens m l c (Ok r) = Opened m l c r
Opens m l c (Err e) = refusal (start_causes (m l)) ≡ Some (told e)
