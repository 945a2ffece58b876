-- What a base is made of. Assumes nothing.
--   parts        the parts of a base: those of its store, with its craft astray
--   StartsOn     a start, refused by the link service alone
use Rattle.std.specs.Prelude.{◌≡◌, Some, Ok, Err, Result}
use Rattle.refusals.specs.declared.Fault.{Fault}
use Rattle.refusals.specs.Refusals.{refusal, told}
use Rattle.charts.specs.declared.chart.Chart.{Chart}
use Rattle.links.specs.Meanings as links
use Rattle.links.specs.Calls.{start_causes}
use Rattle.bases.specs.declared.base.Base.{Base}
use Rattle.carriers.specs.Parts.{Parts, StartedOn}
use Rattle.carriers.specs.Parts as stores

abbrev pub parts : {L : Type 0} → (L → links.Meaning) → Base L → Parts
parts m b = stores.parts m b.store b.astray

abbrev pub StartsOn : {L : Type 0} → (L → links.Meaning) → L → Chart → Result (Base L) Fault → Type 0
StartsOn m l c (Ok b) = StartedOn (m l) c (parts m b)
StartsOn m l c (Err e) = refusal (start_causes (m l)) ≡ Some (told e)
