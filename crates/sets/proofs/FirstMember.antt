-- What is made for each craft of a set is what is made for the lowest, and then for each of the others. Assumes nothing.
use Rattle.std.proofs.Common.{◌≡◌, ℕ, zero, suc, ◌^◌, ◌<◌, ◌≤◌, false, eqb, cond, List, [], ◌∷◌, ◌++◌, length, sym, ap, ◌∙◌, subst, inl, inr, add-one, arith}
use Rattle.std.proofs.lemmas.Bool.{cases_eq}
use Rattle.sets.specs.Sets.{bit, IsLowest, has, less, only, labels, each, members_of}
use Rattle.sets.proofs.Bits.{bit_le, bit_shift, bit-less, bit-only, bit-only_other}
use Rattle.sets.proofs.Members.{in_has, not_in, bit_lacks, in_below}
use Rattle.sets.proofs.Each.{each_none, each_in, each_out, each_most}
use Rattle.sets.proofs.Removed.{each_same, each_empty}

module _ {X : Type 0} (f : ℕ → X) (s i : ℕ) (low : IsLowest i s) where
  below_lacks : (k : ℕ) → k < i → has s k ≡ false
  below_lacks k l = bit_lacks s k (not_in s k (λ e. omega (arith, low.least k e)))

  below_none : (n : ℕ) → n ≤ i → each f s n ≡ []
  below_none zero l = each_none f s
  below_none (suc n) l =
      ap (each f s) (sym (add-one n)) ∙ each_out f s n (below_lacks n (omega arith)) ∙ below_none n (omega arith)

  less_lacks : has (less s (only i)) i ≡ false
  less_lacks = bit_lacks (less s (only i)) i (omega (arith, bit-less s (only i) i, bit-only i, bit_le s i))

  less_keeps : (k : ℕ) → (k ≡ i → ⊥) → has (less s (only i)) k ≡ has s k
  less_keeps k ne =
      let e : bit (less s (only i)) k ≡ bit s k = omega (arith, bit-less s (only i) k, bit-only_other i k (λ q. ne (sym q))) in
      ap (λ (b : ℕ). eqb b 1) (sym (bit_shift (less s (only i)) k) ∙ e ∙ bit_shift s k)

  pub each_first : (n : ℕ) → i < n → each f s n ≡ f i ∷ each f (less s (only i)) n
  unfolding each
  each_first zero l = absurd (omega arith)
  each_first (suc n) l = elim (cases_eq i n) [
    | inl e ↦
        let P : ℕ → Type 0 = λ m. each f s (suc m) ≡ f i ∷ each f (less s (only i)) (suc m) in
        subst P e (
        rw add-one at (each_in f s i (in_has s i low.member))
        ∙ ap (λ (t : List X). t ++ f i ∷ []) (below_none i (omega arith))
        ∙ ap (λ (t : List X). f i ∷ t) (sym (rw add-one at (each_out f (less s (only i)) i less_lacks) ∙ each_same f s (less s (only i)) i (in_has s i low.member) less_lacks less_keeps i (omega arith) ∙ below_none i (omega arith))))
    | inr ne ↦
        ap (λ (t : List X). t ++ cond (has s n) (f n ∷ []) []) (each_first n (omega arith))
        ∙ ap (λ b. f i ∷ (each f (less s (only i)) n ++ cond b (f n ∷ []) [])) (sym (less_keeps n (λ q. ne (sym q))))
  ]

pub members_of-first : (s i : ℕ) → s < 2 ^ labels → IsLowest i s → members_of s ≡ i ∷ members_of (less s (only i))
members_of-first s i l low = each_first (λ j. j) s i low labels (in_below labels s i l low.member)

pub members_of-empty : members_of 0 ≡ []
members_of-empty = each_empty (λ j. j) labels

pub length-members_of : (s : ℕ) → length (members_of s) ≤ labels
length-members_of s = each_most (λ j. j) s labels
