-- The toil of two craft after their first order, where each hears the other over a link alone. Two craft have no room for one astray:
-- fewer than a third may go astray. Assumes nothing.
--   OneOrdered   two frames wait, of the Send and of its author's Echo; that Echo is the one that was said of the 32 Echoes and Readies of two craft;
--                so the toil is 219: what waits, and seven for each of the 31 that may follow
--   ToilOfTwo    so it is after an accepted order, whoever orders what under which number, over any link service and for matter of any kinds,
--                in a flight that was opened just now on a direct carrier opened just now
use Rattle.std.specs.Prelude.{◌≡◌, ℕ, List, Option}
use Rattle.matter.specs.Layouts.{Kind}
use Rattle.cuts.specs.declared.complete.CompleteChart.{CompleteChart}
use Rattle.links.specs.Meanings as links
use Rattle.agreement.specs.Flights.{State, Delivery, ordered, total_said, flight_toil}
use Rattle.carriers.specs.declared.direct.Direct.{Direct}
use Rattle.carriers.specs.Directs.{means, Sound, SaysDirect, CarriesDirect, MeddlesDirect, Opened}
use Rattle.flight.specs.declared.flight.Flight.{Flight}
use Rattle.flight.specs.Ledgers.{state_of}
use Rattle.flight.specs.Lives.{Opens, CallStep}

pub record OneOrdered (s : State) : Type 0 where
  pub waiting : s.carrier.waiting ≡ 2
  pub said : total_said s.carrier.n s.ledger.votes ≡ 1
  pub toil : flight_toil 7 s ≡ 219

abbrev pub ToilOfTwo : {L : Type 0} → (M : Type 0) → (L → links.Meaning) → List Kind → Type 0
ToilOfTwo {L} M m ks =
    (l : L) (chart : CompleteChart) (d : Direct L) (x x' : Flight (Direct L) M) (c k w : ℕ) (told : Option Delivery)
    → chart.chart.n ≡ 2 → Opened m l chart d → Opens (means m) (Sound m) 7 ks d x
    → CallStep (means m) (Sound m) 7 ks (SaysDirect m) (CarriesDirect m) (MeddlesDirect m) x (ordered c k w told) x'
    → OneOrdered (state_of (means m) x')
