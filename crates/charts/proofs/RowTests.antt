-- The tests of rows and sizes decide what they say. Assumes nothing.
--   decides_leb        the test of an order
--   decides_sized      the test of the size
--   decides_answered   the test that who is named names back
--   decides_tests      the same, by the test of each craft
--   decides_right      the test of a row
use Rattle.std.proofs.Common.{◌≡◌, ℕ, ◌*◌, ◌<◌, ◌≤◌, Bool, true, not, ◌||◌, leb, List, get_or, Decides, refl, subst, ⊎_elim, arith, pow_pos}
use Rattle.std.proofs.lemmas.Bool.Decides.{Decides-and, Decides-not, Decides-like, Decides-ltb, Decides-below_and}
use Rattle.std.proofs.lemmas.Bool.{cases_Bool, leb-true, le-leb, both_ways, not-true, not_from_false, or_left, or_right, or_cases}
use Rattle.sets.specs.Sets.{Within, has, below, labels}
use Rattle.sets.proofs.Bits.{bit_below}
use Rattle.sets.proofs.Members.{has_decides, inside_decides, in_below, within_in, within_by}
use Rattle.charts.specs.Rows.{Linked, Right, answered, right}
use Rattle.charts.specs.Causes.{Sized, sized}

-- ---- the size

pub decides_leb : (a b : ℕ) → Decides (leb a b) (a ≤ b)
decides_leb a b = (leb-true a b, le-leb a b)

pub decides_sized : (n f : ℕ) → Decides (sized n f) (Sized n f)
decides_sized n f = Decides-like (sized n f) (λ p. (p.0, p.1.0, p.1.1)) (λ p. (p.0, (p.1, p.2)))
    (Decides-and _ _ (decides_leb 2 n) (Decides-and _ _ (decides_leb n labels) (Decides-ltb (3 * f) n)))

-- ---- a row

-- where x, there y
decides_if : {P Q : Type 0} (x y : Bool) → Decides x P → Decides y Q → Decides (not x || y) (P → Q)
decides_if x y p q = (
  λ e h. ⊎_elim (λ (f : not x ≡ true). absurd (both_ways x (not-true x f) (p.1 h))) (λ f. q.0 f) (or_cases (not x) y e),
  λ h. ⊎_elim (λ (e : x ≡ true). or_right (not x) y (q.1 (h (p.0 e)))) (λ e. or_left (not x) y (not_from_false x e)) (cases_Bool x),
)

module _ (rows : List ℕ) (i : ℕ) where
  pub decides_answered : (k : ℕ) → Decides (answered rows i k) ((j : ℕ) → j < k → Linked rows i j → Linked rows j i)
  unfolding answered
  decides_answered k = Decides-below_and
      (λ j. not (has (get_or rows i 0) j) || has (get_or rows j 0) i) (λ j. Linked rows i j → Linked rows j i) (answered rows i)
      (λ j. decides_if _ _ (has_decides (get_or rows i 0) j) (has_decides (get_or rows j 0) i)) refl (λ _. refl) k

  pub decides_tests : (k : ℕ) → Decides (answered rows i k) ((j : ℕ) → j < k → (not (has (get_or rows i 0) j) || has (get_or rows j 0) i) ≡ true)
  unfolding answered
  decides_tests k = Decides-below_and
      (λ j. not (has (get_or rows i 0) j) || has (get_or rows j 0) i) (λ j. (not (has (get_or rows i 0) j) || has (get_or rows j 0) i) ≡ true)
      (answered rows i) (λ j. (λ e. e, λ e. e)) refl (λ _. refl) k

  right-parts : (n : ℕ) → Within (get_or rows i 0) (below n) × ((Linked rows i i → ⊥) × ((j : ℕ) → j < n → Linked rows i j → Linked rows j i))
      → Right n rows i
  right-parts n (w, (a, h)) j l =
      let under : j < n = in_below n (below n) j (omega (arith, pow_pos n)) (within_in (get_or rows i 0) (below n) j w l) in
      (λ e. a (subst (λ (x : ℕ). Linked rows i x) e l), under, h j under l)

  parts-right : (n : ℕ) → Right n rows i
      → Within (get_or rows i 0) (below n) × ((Linked rows i i → ⊥) × ((j : ℕ) → j < n → Linked rows i j → Linked rows j i))
  parts-right n r = (
    within_by (get_or rows i 0) (below n) (λ j l. bit_below n j (r j l).1),
    (λ l. (r i l).0 refl, λ j b l. (r j l).2),
  )

  pub decides_right : (n : ℕ) → Decides (right n rows i) (Right n rows i)
  decides_right n = Decides-like (right n rows i) (right-parts n) (parts-right n)
      (Decides-and _ _ (inside_decides (get_or rows i 0) (below n))
      (Decides-and _ _ (Decides-not _ (has_decides (get_or rows i 0) i)) (decides_answered n)))
