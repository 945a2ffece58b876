-- Matter in words. Assumes nothing.
--   spaced        numbers in decimal, a space before each, and what follows
--   kind_name     a kind of matter by its number
--   kind_text     a kind's name and its values
--   any_text      a matter of any kind in words
use Rattle.std.specs.Prelude.{ℕ, cond, List, [], ◌∷◌, ◌++◌, codes, decimal, ◌==◌}
use Rattle.matter.specs.declared.any_matter.AnyMatter.{AnyMatter}
use Rattle.matter.specs.AnyKind.{any_kind, any_fields}
use Rattle.matter.specs.Layouts.{Kind}

abbrev pub spaced : List ℕ → List ℕ → List ℕ
spaced [] rest = rest
spaced (v ∷ vs) rest = 32 ∷ (decimal v ++ spaced vs rest)

abbrev pub kind_name : ℕ → List ℕ
kind_name n = cond (n == 1) (codes "observation") (codes "keepout")

abbrev pub kind_text : Kind → List ℕ → List ℕ
kind_text k vs = kind_name k.number ++ spaced vs []

abbrev pub any_text : AnyMatter → List ℕ
any_text m = kind_text (any_kind m) (any_fields m)
