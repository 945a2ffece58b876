use Rattle.std.proofs.Common.{◌≡◌, ℕ, ◌-◌, ◌^◌, ◌<◌, ◌++◌}
use Rattle.std.specs.List.{AllByRecursion}
use Rattle.sets.specs.Sets.{labels, only, union, members_of}
use Rattle.sets.specs.Ascending.{members_left}
use Rattle.pathsets.specs.Hitting.{HittableWith}
use Rattle.pathsets.specs.Keys.{sets_of}
use Rattle.pathsets.proofs.search.+is_hittable_with.Given as goal

abbrev pub decreases-is_hittable_with : goal.decreases-is_hittable_with
decreases-is_hittable_with l = l.allowed

abbrev pub invariant-loop-craft : goal.invariant-loop-craft
invariant-loop-craft l = record {
  can : (goal.iterator-loop-craft).can_next l.craft-iterator;
  finite : (goal.iterator-loop-craft).is_finite l.craft-iterator;
  small : l.unmet < 2 ^ labels;
  all : l.yielded ++ members_left l.craft-iterator ≡ members_of l.unmet;
  none : AllByRecursion (λ (i : ℕ). HittableWith (sets_of l.author l.note l.rows) (union l.chosen (only i)) (l.allowed - 1) → ⊥) l.yielded;
}
