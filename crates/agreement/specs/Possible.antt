-- The agreement theorem speaks of something: a flight whose order arrives. Assumes nothing.
--   Arrives     four craft, of which one may go astray: from an opening, over a carrier that keeps the laws, craft 0 orders w, and when nothing waits it was delivered to all
--   Possible    so for matter of any kinds, and any word of those kinds
use Rattle.std.specs.Prelude.{◌≡◌, ℕ, ◌<◌, List, None}
use Rattle.matter.specs.Layouts.{Kind, word_refusal}
use Rattle.agreement.specs.Flights.{State, Event}
use Rattle.agreement.specs.Runs.{Opening, Run, Delivered, Ordered}

pub record Arrives (ks : List Kind) (w : ℕ) : Type 0 where
  pub start : State
  pub final : State
  pub calls : List Event
  pub opening : Opening start
  pub run : Run 4 ks start calls final
  pub craft : final.carrier.n ≡ 4
  pub most_astray : final.carrier.f ≡ 1
  pub ordered : Ordered calls 0 0 w
  pub rest : final.carrier.waiting ≡ 0
  pub delivered : (p : ℕ) → p < 4 → Delivered calls p 0 0 w

abbrev pub Possible : Type 0
Possible = (ks : List Kind) (w : ℕ) → word_refusal ks w ≡ None → Arrives ks w
