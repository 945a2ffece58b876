-- The kinds of matter, by their fields. Assumes nothing.
--   day           a second of the day, 0 to 86,399, in three bytes
--   observation   kind 1: target, start second, length in seconds, camera mode
--   observed      the values of an observation
--   keep_out      kind 2: zone, first second, length in minutes
--   kept_out      the values of a keep-out
use Rattle.std.specs.Prelude.{ℕ, List, [], ◌∷◌}
use Rattle.matter.specs.declared.kinds.Observation.{Observation}
use Rattle.matter.specs.declared.kinds.KeepOut.{KeepOut}
use Rattle.matter.specs.Layouts.{Field, field, Kind}

abbrev pub day : Field
day = field 3 0 86399

abbrev pub observation : Kind
observation = record { number = 1; layout = field 2 1 65535 ∷ day ∷ field 1 1 255 ∷ field 1 0 3 ∷ [] }

abbrev pub observed : Observation → List ℕ
observed m = m.target ∷ m.start ∷ m.length ∷ m.mode ∷ []

abbrev pub keep_out : Kind
keep_out = record { number = 2; layout = field 2 1 65535 ∷ day ∷ field 2 1 1440 ∷ [] }

abbrev pub kept_out : KeepOut → List ℕ
kept_out m = m.zone ∷ m.first ∷ m.minutes ∷ []
