use Rattle.std.proofs.Common.{ℕ, eqb, ◌∙◌, rules}
use lib.Bits.{or_zero_l}
use borrow.Author.Tests.{tests}
use Rattle.std.proofs.lemmas.Iterator.{YieldsList-from_slice, YieldsList-from_map}
use Rattle.std.proofs.lemmas.Iterator.Consumers.{YieldsList-at, YieldsList-from_filter, fold_from_yields_List}
use Rattle.sets.specs.Sets.{union, count}
use Rattle.shelves.specs.declared.kinds.Row.{Row}
use Rattle.shelves.specs.Rows.{keyed}
use Rattle.pathsets.specs.Families.{singles}
use Rattle.pathsets.specs.Keys.{sets_of}
use Rattle.pathsets.proofs.Singles.{singles_folded}
use Rattle.pathsets.proofs.telling.alone.Goals as goal

pub returns : goal.returns
returns c =
    let ss = sets_of c.args.author c.args.note.now c.args.rows.now in
    fold_from_yields_List _ (λ (m s : ℕ). union m s) 0 c.fold.result c.fold.ensures.ran
    (YieldsList-from_filter _ (λ (s : ℕ). eqb (count s) 1)
    (YieldsList-at c.filter-2.ensures.source (YieldsList-from_map _ (λ (r : Row). r.held)
    (YieldsList-at c.map.ensures.source (YieldsList-from_filter _ (keyed c.args.author c.args.note.now)
    (YieldsList-at c.filter.ensures.source (YieldsList-from_slice c.args.rows.now cc)) c.filter.ensures.closure (λ x r q k. search (rules, tests)))) c.map.ensures.closure (λ x r q k. search rules)))
    c.filter-2.ensures.closure (λ x r q k. search (rules, tests))) (λ a x b q k. search rules)
    ∙ singles_folded 0 ss ∙ or_zero_l (singles ss)
