-- Worked examples of matter words. Assumes nothing.
--   WorkedWords   the word of an observation of target 300, an hour into the day; starting at the day's end it is refused by 11, at byte 3
use Rattle.std.specs.Prelude.{◌≡◌, [], ◌∷◌, Some}
use Rattle.matter.specs.Kinds.{observation}
use Rattle.matter.specs.AnyKind.{all_kinds}
use Rattle.matter.specs.Layouts.{word_of, field_causes, word_refusal, Reads}
use Rattle.refusals.specs.Refusals.{refusal}

pub record WorkedWords : Type 0 where
  pub word : word_of observation (300 ∷ 3600 ∷ 12 ∷ 1 ∷ []) ≡ 0x01012C000E100C01
  pub read : Reads all_kinds 0x01012C000E100C01 observation (300 ∷ 3600 ∷ 12 ∷ 1 ∷ [])
  pub late : refusal (field_causes 1 observation.layout (300 ∷ 86400 ∷ 12 ∷ 1 ∷ [])) ≡ Some record { layer = 1; number = 11; values = 3 ∷ [] }
  pub late_word : word_refusal all_kinds (word_of observation (300 ∷ 86400 ∷ 12 ∷ 1 ∷ [])) ≡ Some record { layer = 1; number = 11; values = 3 ∷ [] }
