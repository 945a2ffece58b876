-- What a craft is told. Assumes nothing.
--   delivery   a delivery as the calls of a flight have it, if there is one
use Rattle.std.specs.Prelude.{Some, None, Option}
use Rattle.agreement.specs.Flights as spec
use Rattle.votes.specs.declared.delivery.Delivery.{Delivery}

abbrev pub delivery : Option Delivery → Option spec.Delivery
delivery None = None
delivery (Some d) = Some (record { craft = d.craft; origin = d.origin; number = d.number; word = d.word })
