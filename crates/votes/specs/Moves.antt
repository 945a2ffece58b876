-- What a turn says of the note that was heard, and the turn of a note that is not looked at. Assumes nothing.
--   echo_of    its Echo, if it says one
--   ready_of   its Ready, if it says one
--   idle       nothing said, and nothing delivered
--   Ignored    the answer is that, and what was kept stays as it is
--   Unheard    that, of a note for which the votes have no place
use Rattle.std.specs.Prelude.{◌≡◌, ℕ, false, cond, Some, None, Option}
use Rattle.frames.specs.declared.notes.Step.TheVariants.{Echo, Ready}
use Rattle.frames.specs.declared.notes.Note.{Note}
use Rattle.frames.specs.Notes.{note}
use Rattle.votes.specs.declared.stages.Move.{Move}
use Rattle.votes.specs.Ranges.{InTable}

abbrev pub echo_of : Move → Note → Option Note
echo_of u x = cond u.echoes (Some (note Echo x.origin x.number x.content)) None

abbrev pub ready_of : Move → Note → Option Note
ready_of u x = cond u.readies (Some (note Ready x.origin x.number x.content)) None

abbrev pub idle : Move
idle = record { echoes = false; readies = false; delivers = false }

pub record Ignored {A : Type 0} (x : A) (r : Move) (x' : A) : Type 0 where
  pub answer : r ≡ idle
  pub same : x' ≡ x

abbrev pub Unheard : {A : Type 0} → ℕ → ℕ → ℕ → Note → A → Move → A → Type 0
Unheard n l a x v r v' = (InTable n l a x → ⊥) → Ignored v r v'
