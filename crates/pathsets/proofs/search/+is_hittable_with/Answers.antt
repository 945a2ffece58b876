use Rattle.std.proofs.Common.{◌≡◌, ℕ, ◌+◌, ◌-◌, ◌++◌, ◌∷◌, [], List, sym, refl, ap, ◌∙◌, subst, append_assoc, arith}
use Rattle.std.proofs.ByRecursion.{All-push}
use Rattle.std.proofs.lemmas.Bool.{true≢false, both_ways}
use Rattle.sets.specs.Sets.{labels, only, union}
use Rattle.sets.specs.Ascending.{members_left}
use Rattle.sets.proofs.Members.{one_of-below}
use Rattle.pathsets.specs.Hitting.{HittableWith}
use Rattle.pathsets.specs.Keys.{sets_of}
use Rattle.pathsets.proofs.HittingLaws.{hit_met, hit_stuck, hit_back, hit_on, turn_member, turns_done}
use Rattle.pathsets.proofs.search.+is_hittable_with.Goals as goal

pub returns-in_default : goal.returns-in_default
returns-in_default t c = (λ _. hit_met _ c.args.chosen c.args.allowed c.in_default.ensures, λ _. refl)

pub returns-then-allowed-eq0 : goal.returns-then-allowed-eq0
returns-then-allowed-eq0 t c = (
  λ e. absurd (true≢false (sym e)),
  λ h. absurd (hit_stuck _ _ c.args.chosen c.in-Some.ensures.0 c.in-Some.ensures.1 (rw c.if-allowed-eq0.true at h)),
)

pub returns-then-is_hittable_with : goal.returns-then-is_hittable_with
returns-then-is_hittable_with t c =
    let i = c.in-Some-craft.craft in
    let turn = sym (ap (λ (js : List ℕ). c.loop-craft.yielded ++ js) c.in-Some-craft.ensures.steps) ∙ c.loop-craft.invariant.all in
    let m = turn_member c.in-Some.unmet c.loop-craft.yielded (members_left c.next.new.self) i turn in
    let one : c.with.result ≡ union c.args.chosen (only i) = c.with.ensures ∙ ap (λ (s : ℕ). union c.args.chosen s) (one_of-below labels i m.0) in
    let found = subst (λ (s : ℕ). HittableWith (sets_of c.args.author c.args.note.now c.args.rows.now) s (c.args.allowed - 1)) one (c.is_hittable_with.ensures.0 c.if-is_hittable_with.true) in
    let h = hit_back _ c.args.chosen i (c.args.allowed - 1) found in
    let k : c.args.allowed - 1 + 1 ≡ c.args.allowed = omega arith in
    (λ _. rw k at h, λ _. refl)

pub loop-craft-preserved : goal.loop-craft-preserved
loop-craft-preserved t c =
    let i = c.in-Some-craft.craft in
    let D = λ (s : ℕ). HittableWith (sets_of c.args.author c.args.note.now c.args.rows.now) s (c.args.allowed - 1) in
    let turn = sym (ap (λ (js : List ℕ). c.loop-craft.yielded ++ js) c.in-Some-craft.ensures.steps) ∙ c.loop-craft.invariant.all in
    let m = turn_member c.in-Some.unmet c.loop-craft.yielded (members_left c.next.new.self) i turn in
    let one : c.with.result ≡ union c.args.chosen (only i) = c.with.ensures ∙ ap (λ (s : ℕ). union c.args.chosen s) (one_of-below labels i m.0) in
    let failed : D (union c.args.chosen (only i)) → ⊥ =
    λ d. both_ways c.is_hittable_with.result c.if-is_hittable_with.false (c.is_hittable_with.ensures.1 (subst D (sym one) d)) in
    record {
      can = tt;
      finite = tt;
      small = c.loop-craft.invariant.small;
      all = append_assoc c.loop-craft.yielded (i ∷ []) (members_left c.next.new.self) ∙ turn;
      none = All-push (λ (j : ℕ). D (union c.args.chosen (only j)) → ⊥) c.loop-craft.yielded i c.loop-craft.invariant.none failed;
    }

pub returns : goal.returns
returns t c = (
  λ e. absurd (true≢false (sym e)),
  λ h.
      let k : c.args.allowed ≡ c.args.allowed - 1 + 1 = omega arith in
      let r = hit_on _ _ c.args.chosen (c.args.allowed - 1) c.in-Some.ensures.0 c.in-Some.ensures.1 (rw k at h) in
      let inv = c.loop-craft.invariant in
      absurd (turns_done (λ (j : ℕ). HittableWith (sets_of c.args.author c.args.note.now c.args.rows.now) (union c.args.chosen (only j)) (c.args.allowed - 1) → ⊥)
      c.in-Some.unmet c.loop-craft.yielded (members_left c.loop-craft.craft-iterator) inv.small inv.all c.in-None.ensures.steps.0 inv.none r.0 r.1 r.2),
)
