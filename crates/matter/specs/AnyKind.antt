-- Matter of any kind: the list of all kinds, and a matter's own kind and values. Assumes nothing.
--   all_kinds              every kind of matter
--   any_kind, any_fields   the kind of a matter, and its values
--   kind_of                the kind that a name stands for
--   KindRead               what a reader of a kind's number answers: the kind that has it; a number of no kind is refused by 11, at byte 0
use Rattle.std.specs.Prelude.{◌≡◌, ℕ, true, List, [], ◌∷◌, Some, None, Ok, Err, Result}
use Rattle.refusals.specs.declared.Fault.{Fault}
use Rattle.refusals.specs.Refusals.{told}
use Rattle.matter.specs.declared.matter_kinds.MatterKind as names
use Rattle.matter.specs.declared.matter_kinds.MatterKind.TheVariants as name
use Rattle.matter.specs.declared.any_matter.AnyMatter.{AnyMatter}
use Rattle.matter.specs.declared.any_matter.AnyMatter.TheVariants.{Observation, KeepOut}
use Rattle.matter.specs.Layouts.{Kind, numbered, out_of_range}
use Rattle.matter.specs.Kinds.{observation, observed, keep_out, kept_out}

abbrev pub all_kinds : List Kind
all_kinds = observation ∷ keep_out ∷ []

abbrev pub any_kind : AnyMatter → Kind
any_kind (Observation m) = observation
any_kind (KeepOut m) = keep_out

abbrev pub any_fields : AnyMatter → List ℕ
any_fields (Observation m) = observed m
any_fields (KeepOut m) = kept_out m

abbrev pub kind_of : names.MatterKind → Kind
kind_of name.Observation = observation
kind_of name.KeepOut = keep_out

abbrev pub KindRead : ℕ → Result names.MatterKind Fault → Type 0
KindRead n (Ok k) = numbered all_kinds n ≡ Some (kind_of k)
KindRead n (Err e) = (numbered all_kinds n ≡ None) × (told e ≡ (out_of_range 0 true).tells)
