-- A call is refused exactly where one of its causes holds. Assumes nothing.
--   by_causes        what an event tells is the first cause of its call that holds
--   leaves_it        a refused call changes nothing
use Rattle.std.proofs.Common.{◌≡◌, ℕ, List, Some}
use Rattle.std.proofs.lemmas.Option.{none-some}
use Rattle.refusals.specs.Refusals.{Told, refusal}
use Rattle.matter.specs.Layouts.{Kind}
use Rattle.agreement.specs.Flights.{State, Event, ordered, moved, heard, meddled, collected, booked, returned, refused, causes, Answered}
use Rattle.agreement.specs.RefusedExactly.{call_of, told_by, RefusedExactly}

by_causes : (g : ℕ) (ks : List Kind) (s s' : State) (e : Event) → Answered g ks s e s' → refusal (causes ks s (call_of e)) ≡ told_by e
by_causes g ks s s' (ordered c k w d) x = x.0
by_causes g ks s s' (moved i) x = x.0
by_causes g ks s s' (heard i l a t d) x = x.0
by_causes g ks s s' (meddled c to u) x = x.0
by_causes g ks s s' (collected c o k) x = x.0
by_causes g ks s s' (booked c o k place buffer after) x = x.0
by_causes g ks s s' (returned c o k) x = x.0
by_causes g ks s s' (refused c v) x = x.0

leaves_it : (g : ℕ) (ks : List Kind) (s s' : State) (e : Event) (v : Told) → Answered g ks s e s' → told_by e ≡ Some v → s' ≡ s
leaves_it g ks s s' (ordered c k w d) v x e = absurd (none-some _ e)
leaves_it g ks s s' (moved i) v x e = absurd (none-some _ e)
leaves_it g ks s s' (heard i l a t d) v x e = absurd (none-some _ e)
leaves_it g ks s s' (meddled c to u) v x e = absurd (none-some _ e)
leaves_it g ks s s' (collected c o k) v x e = absurd (none-some _ e)
leaves_it g ks s s' (booked c o k place buffer after) v x e = absurd (none-some _ e)
leaves_it g ks s s' (returned c o k) v x e = absurd (none-some _ e)
leaves_it g ks s s' (refused c u) v x e = x.1

pub refused_exactly : RefusedExactly
refused_exactly = record { first_cause = by_causes; unchanged = leaves_it }
