-- Sets of one craft in a family, and whom a craft tells. Assumes nothing.
--   in_singles, singles_in   a craft makes up a set by itself exactly if the set of it alone is held
--   singles_folded   the sets of one craft, joined one after another
--   told_is     the neighbours that the code tells are those of step 5
use Rattle.std.proofs.Common.{◌≡◌, ℕ, ◌^◌, ◌<◌, true, false, cond, eqb, List, [], ◌∷◌, filter, sym, ap, ◌∙◌, subst, ⊎_elim, arith}
use Rattle.std.specs.List.{fold}
use lib.Bits.{or_zero_r, or_zero_l}
use Rattle.std.proofs.lemmas.Bool.{cases_Bool, cases_eq, cases_lt, both_ways, or_cases, or_left, or_right, eqb-true, eq-eqb, true≢false, cond-true, cond-false}
use Rattle.sets.specs.Sets.{labels, bit, In, only, one_of, union, less, count, passing}
use Rattle.sets.proofs.Bits.{bit-zero, bit_le, bit-union, bit-less, bit-only, bit-only_other, same_bits, union_assoc}
use Rattle.sets.proofs.Members.{in_below, not_in, union_in, less_in, in_less, one_of-below, one_of_past, same_members}
use Rattle.sets.proofs.Counts.{count-only, count-less-only}
use Rattle.pathsets.specs.Families.{holds, singles}
use Rattle.pathsets.specs.Steps.{tells}
use Rattle.pathsets.proofs.HittingLaws.{no_members}
use Rattle.pathsets.proofs.StepLaws.{tells_in, in_tells}

-- the only member of a set makes it up
sole : (s i : ℕ) → count s ≡ 1 → In i s → only i ≡ s
sole s i one m =
    let none = no_members (less s (only i)) (omega (arith, count-less-only s i m)) in
    same_bits (only i) s (λ j. ⊎_elim
    (λ (q : i ≡ j). subst (λ (x : ℕ). In x (only i)) q (bit-only i) ∙ sym (subst (λ (x : ℕ). In x s) q m))
    (λ ne. omega (arith, bit-only_other i j ne, bit-less s (only i) j, ap (λ (x : ℕ). bit x j) none, bit-zero j)) (cases_eq i j))

abbrev lone : ℕ → ℕ
lone s = cond (eqb (count s) 1) s 0

lone_in : (s i : ℕ) → In i (lone s) → only i ≡ s
lone_in s i h = ⊎_elim
    (λ (e : eqb (count s) 1 ≡ true). sole s i (eqb-true _ _ e) (subst (In i) (cond-true (eqb (count s) 1) s 0 e) h))
    (λ e. absurd (omega (arith, subst (In i) (cond-false (eqb (count s) 1) s 0 e) h, bit-zero i)))
    (cases_Bool (eqb (count s) 1))

pub singles_in : (ss : List ℕ) (i : ℕ) → In i (singles ss) → holds (only i) ss ≡ true
singles_in [] i h = absurd (omega (arith, h, bit-zero i))
singles_in (s ∷ ss) i h = ⊎_elim
    (λ (m : In i (lone s)). or_left (eqb (only i) s) _ (eq-eqb _ _ (lone_in s i m)))
    (λ m. or_right (eqb (only i) s) _ (singles_in ss i m)) (union_in (lone s) (singles ss) i h)

lone_only : (i : ℕ) → In i (lone (only i))
lone_only i = subst (In i) (sym (cond-true (eqb (count (only i)) 1) (only i) 0 (eq-eqb _ _ (count-only i)))) (bit-only i)

pub in_singles : (ss : List ℕ) (i : ℕ) → holds (only i) ss ≡ true → In i (singles ss)
in_singles [] i h = absurd (true≢false (sym h))
in_singles (s ∷ ss) i h = ⊎_elim
    (λ (e : eqb (only i) s ≡ true).
    let m : In i (lone s) = subst (λ (x : ℕ). In i (lone x)) (eqb-true _ _ e) (lone_only i) in
    omega (arith, m, bit-union (lone s) (singles ss) i, bit_le (singles ss) i))
    (λ e. omega (arith, in_singles ss i e, bit-union (lone s) (singles ss) i, bit_le (lone s) i)) (or_cases (eqb (only i) s) _ h)

pub singles_folded : (a : ℕ) (ss : List ℕ) → fold (λ (m s : ℕ). union m s) a (filter (λ (s : ℕ). eqb (count s) 1) ss) ≡ union a (singles ss)
singles_folded a [] = sym (or_zero_r a)
singles_folded a (s ∷ ss) = ⊎_elim
    (λ (e : eqb (count s) 1 ≡ true). rw e (singles_folded (union a s) ss ∙ union_assoc a s (singles ss)))
    (λ (e : eqb (count s) 1 ≡ false). rw e (singles_folded a ss ∙ ap (λ (t : ℕ). union a t) (sym (or_zero_l (singles ss)))))
    (cases_Bool (eqb (count s) 1))

-- ---- whom a craft tells

one_of_own : (a i : ℕ) → i < labels → i ≡ a → In i (one_of labels a)
one_of_own a i l e = subst (λ (s : ℕ). In i s) (sym (one_of-below labels a (omega arith))) (subst (λ (x : ℕ). In i (only x)) e (bit-only i))

one_of_other : (a i : ℕ) → (i ≡ a → ⊥) → bit (one_of labels a) i ≡ 0
one_of_other a i ne = ⊎_elim
    (λ (l : a < labels). ap (λ (s : ℕ). bit s i) (one_of-below labels a l) ∙ bit-only_other a i (λ e. ne (sym e)))
    (λ l. ap (λ (s : ℕ). bit s i) (one_of_past labels a l) ∙ bit-zero i) (cases_lt a labels)

pub told_is : (links a v : ℕ) (ss : List ℕ) → links < 2 ^ labels → less (less (less links (one_of labels a)) v) (singles ss) ≡ passing labels (tells links a v ss)
told_is links a v ss small = same_members _ _
    (λ i h.
    let p = less_in (less (less links (one_of labels a)) v) (singles ss) i h in
    let q = less_in (less links (one_of labels a)) v i p.0 in
    let r = less_in links (one_of labels a) i q.0 in
    let l = in_below labels links i small r.0 in
    in_tells links a v ss i l r.0 (λ e. omega (arith, r.1, one_of_own a i l e)) q.1
    (⊎_elim (λ (e : holds (only i) ss ≡ true). absurd (omega (arith, p.1, in_singles ss i e))) (λ e. e) (cases_Bool (holds (only i) ss))))
    (λ i h.
    let t = tells_in links a v ss i h in
    in_less (less (less links (one_of labels a)) v) (singles ss) i
    (in_less (less links (one_of labels a)) v i (in_less links (one_of labels a) i t.0 (one_of_other a i t.1)) t.2)
    (not_in (singles ss) i (λ m. both_ways _ t.3 (singles_in ss i m))))
