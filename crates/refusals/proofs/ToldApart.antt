-- Refusals are told apart by number and values: the values of a number say which refusal it is. Assumes nothing.
use Rattle.std.proofs.Common.{◌≡◌, ℕ, cond, eqb, List, get_or, sym, refl, ap, ◌∙◌, lit≤}
use Rattle.refusals.specs.declared.Refusal.{Refusal}
use Rattle.refusals.specs.declared.Refusal.TheVariants.{Label, Size, Row, Thin, Number, Ordered, Index, Spare, NoLink, Astray, Range, NoSlip, Short, Cut, Version, Unknown}
use Rattle.refusals.specs.Refusals.{number_of, values_of}
use Rattle.refusals.specs.Apart.{NumbersTo, ToldApart}

-- the refusal of a number, by the values that come with it
refusal_of : ℕ → List ℕ → Refusal
refusal_of n vs =
    let v : ℕ = get_or vs 0 0 in
    cond (eqb n 1) (Label v) (cond (eqb n 2) (Size v) (cond (eqb n 3) (Row v) (cond (eqb n 4) (Thin v (get_or vs 1 0) (get_or vs 2 0)) (
    cond (eqb n 5) (Number v) (cond (eqb n 6) (Ordered v) (cond (eqb n 7) (Index v) (cond (eqb n 8) (Spare v) (
    cond (eqb n 9) (NoLink v) (cond (eqb n 10) (Astray v) (cond (eqb n 11) (Range v) (cond (eqb n 12) (NoSlip v) (
    cond (eqb n 13) (Short v) (cond (eqb n 14) Cut (cond (eqb n 15) (Version v) Unknown))))))))))))))

told_is : (x : Refusal) → refusal_of (number_of x) (values_of x) ≡ x
unfolding refusal_of
told_is (Label a) = refl
told_is (Size n) = refl
told_is (Row a) = refl
told_is (Thin u v s) = refl
told_is (Number k) = refl
told_is (Ordered k) = refl
told_is (Index w) = refl
told_is (Spare s) = refl
told_is (NoLink a) = refl
told_is (Astray a) = refl
told_is (Range b) = refl
told_is (NoSlip k) = refl
told_is (Short l) = refl
told_is Cut = refl
told_is (Version v) = refl
told_is Unknown = refl

pub told_apart : ToldApart
told_apart x y n v =
    sym (told_is x) ∙ ap (λ (k : ℕ). refusal_of k (values_of x)) n ∙ ap (λ (vs : List ℕ). refusal_of (number_of y) vs) v ∙ told_is y

pub numbers_to : NumbersTo 16
numbers_to (Label a) = (lit≤ tt, lit≤ tt)
numbers_to (Size n) = (lit≤ tt, lit≤ tt)
numbers_to (Row a) = (lit≤ tt, lit≤ tt)
numbers_to (Thin u v s) = (lit≤ tt, lit≤ tt)
numbers_to (Number k) = (lit≤ tt, lit≤ tt)
numbers_to (Ordered k) = (lit≤ tt, lit≤ tt)
numbers_to (Index w) = (lit≤ tt, lit≤ tt)
numbers_to (Spare s) = (lit≤ tt, lit≤ tt)
numbers_to (NoLink a) = (lit≤ tt, lit≤ tt)
numbers_to (Astray a) = (lit≤ tt, lit≤ tt)
numbers_to (Range b) = (lit≤ tt, lit≤ tt)
numbers_to (NoSlip k) = (lit≤ tt, lit≤ tt)
numbers_to (Short l) = (lit≤ tt, lit≤ tt)
numbers_to Cut = (lit≤ tt, lit≤ tt)
numbers_to (Version v) = (lit≤ tt, lit≤ tt)
numbers_to Unknown = (lit≤ tt, lit≤ tt)
