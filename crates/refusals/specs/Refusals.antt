-- Why a call is refused: what each cause is called by number, what it returns, and which of several is answered.
-- Assumes nothing.
--   layer_number    1 frames, 2 links, 3 carriers, 4 flight
--   number_of       the number of a refusal
--   values_of       the values that it returns
--   fault_text      a fault in words: "refused" and the number of its cause
--   Told, told      a fault as its caller reads it: layer, number and values
--   Cause, cause    a cause by layer, number and values, and whether it holds
--   refusal         of causes in the order in which they are tested, the first that holds
use Rattle.std.specs.Prelude.{ℕ, Bool, cond, List, [], ◌∷◌, ◌++◌, Some, None, Option, codes, decimal}
use Rattle.refusals.specs.declared.Layer.{Layer}
use Rattle.refusals.specs.declared.Layer.TheVariants.{Frames, Links, Carriers, Flight}
use Rattle.refusals.specs.declared.Refusal.{Refusal}
use Rattle.refusals.specs.declared.Refusal.TheVariants.{Label, Size, Row, Thin, Number, Ordered, Index, Spare, NoLink, Astray, Range, NoSlip, Short, Cut, Version, Unknown}
use Rattle.refusals.specs.declared.Fault.{Fault}

abbrev pub layer_number : Layer → ℕ
layer_number Frames = 1
layer_number Links = 2
layer_number Carriers = 3
layer_number Flight = 4

abbrev pub number_of : Refusal → ℕ
number_of (Label a) = 1
number_of (Size n) = 2
number_of (Row a) = 3
number_of (Thin u v s) = 4
number_of (Number k) = 5
number_of (Ordered k) = 6
number_of (Index w) = 7
number_of (Spare s) = 8
number_of (NoLink a) = 9
number_of (Astray a) = 10
number_of (Range b) = 11
number_of (NoSlip k) = 12
number_of (Short l) = 13
number_of Cut = 14
number_of (Version v) = 15
number_of Unknown = 16

-- a wrong length returns 0 and an unknown step or record 2, the places of the bytes that say them
abbrev pub values_of : Refusal → List ℕ
values_of (Label a) = a ∷ []
values_of (Size n) = n ∷ []
values_of (Row a) = a ∷ []
values_of (Thin u v s) = u ∷ v ∷ s ∷ []
values_of (Number k) = k ∷ []
values_of (Ordered k) = k ∷ []
values_of (Index w) = w ∷ []
values_of (Spare s) = s ∷ []
values_of (NoLink a) = a ∷ []
values_of (Astray a) = a ∷ []
values_of (Range b) = b ∷ []
values_of (NoSlip k) = k ∷ []
values_of (Short l) = l ∷ []
values_of Cut = 0 ∷ []
values_of (Version v) = v ∷ []
values_of Unknown = 2 ∷ []

abbrev pub fault_text : Fault → List ℕ
fault_text e = codes "refused " ++ decimal (number_of e.refusal)

pub record Told : Type 0 where
  pub layer : ℕ
  pub number : ℕ
  pub values : List ℕ

abbrev pub told : Fault → Told
told e = record { layer = layer_number e.layer; number = number_of e.refusal; values = values_of e.refusal }

pub record Cause : Type 0 where
  pub holds : Bool
  pub tells : Told

abbrev pub cause : ℕ → ℕ → List ℕ → Bool → Cause
cause l n vs b = record { holds = b; tells = record { layer = l; number = n; values = vs } }

abbrev pub refusal : List Cause → Option Told
refusal [] = None
refusal (c ∷ cs) = cond c.holds (Some c.tells) (refusal cs)
