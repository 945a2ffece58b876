use Rattle.std.proofs.Common.{ℕ, ap, ◌∙◌}
use Rattle.sets.specs.Sets.{less}
use Rattle.pathsets.specs.Families.{singles}
use Rattle.pathsets.specs.Keys.{sets_of}
use Rattle.pathsets.proofs.Singles.{told_is}
use Rattle.pathsets.proofs.telling.told.Goals as goal

pub returns : goal.returns
returns c =
    let ss = sets_of c.args.author c.args.note.now c.args.rows.now in
    c.minus-2.ensures ∙ ap (λ (s : ℕ). less c.minus.result s) c.alone.ensures
    ∙ ap (λ (s : ℕ). less s (singles ss)) c.minus.ensures
    ∙ ap (λ (s : ℕ). less (less s c.args.set) (singles ss)) c.without-others.ensures
    ∙ told_is c.args.neighbours c.args.author c.args.set ss c.ranges.neighbours.fits
