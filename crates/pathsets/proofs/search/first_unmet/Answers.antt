use Rattle.std.proofs.Common.{◌≡◌, ℕ, not, Option, MatchOption, sym, ◌∙◌, subst, rules}
use borrow.Author.Tests.{tests}
use Rattle.std.specs.List.{ContainsAt as Has, find}
use Rattle.std.proofs.lemmas.Iterator.{YieldsList-from_slice, YieldsList-from_map}
use Rattle.std.proofs.lemmas.Iterator.Adapters.{option_map_id}
use Rattle.std.proofs.lemmas.Iterator.Consumers.{YieldsList-at, YieldsList-from_filter}
use Rattle.std.proofs.lemmas.Iterator.Search.{find_from_yields_List}
use Rattle.sets.specs.Sets.{shared, meeting}
use Rattle.shelves.specs.declared.kinds.Row.{Row}
use Rattle.shelves.specs.Rows.{keyed}
use Rattle.pathsets.specs.Hitting.{Hits}
use Rattle.pathsets.specs.Keys.{sets_of}
use Rattle.pathsets.proofs.HittingLaws.{unmet}
use Rattle.pathsets.proofs.search.first_unmet.Goals as goal

pub returns : goal.returns
returns c =
    let ss = sets_of c.args.author c.args.note.now c.args.rows.now in
    let found : c.find.result ≡ find (λ (s : ℕ). not (meeting s c.args.chosen)) ss =
    sym (option_map_id c.find.result) ∙ find_from_yields_List (λ (s : ℕ). not (meeting s c.args.chosen)) _ _ c.find.result c.find.ensures.ran
    (YieldsList-from_map _ (λ (r : Row). r.held)
    (YieldsList-at c.map.ensures.source (YieldsList-from_filter _ (keyed c.args.author c.args.note.now)
    (YieldsList-at c.filter.ensures.source (YieldsList-from_slice c.args.rows.now cc)) c.filter.ensures.closure (λ x r q k. search (rules, tests)))) c.map.ensures.closure (λ x r q k. search rules)) (λ x b q k. search (rules, tests)) in
    subst (λ (r : Option ℕ). MatchOption r (Hits c.args.chosen ss) (λ s. Has ss s × (shared s c.args.chosen ≡ 0))) (sym found) (unmet c.args.chosen ss)
