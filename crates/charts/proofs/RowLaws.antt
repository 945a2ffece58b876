-- What holds of sound rows. Assumes nothing.
--   sound_apart, sound_bounded, sound_mutual   the parts of soundness
--   empty_right, past_right   an empty row, and a row past the last, name rightly
--   linked-below   both ends of a link are craft below n
--   past_empty     rows at or past n are empty
--   own_lacks      a row does not have its own craft
--   linked_both    a link leads both ways
use Rattle.std.proofs.Common.{◌≡◌, ℕ, ◌<◌, ◌≤◌, false, List, length, get_or, sym, refl, ap, ◌∙◌, arith}
use Rattle.std.proofs.lemmas.List.{get_or_past}
use Rattle.std.proofs.lemmas.Bool.Decides.{same_from_decides, Decides-like}
use Rattle.sets.specs.Sets.{bit, has}
use Rattle.sets.proofs.Bits.{bit-zero, same_bits}
use Rattle.sets.proofs.Members.{has_decides, bit_lacks, not_in}
use Rattle.charts.specs.Rows.{Linked, Right, Sound, Apart, Bounded, Mutual}

-- ---- the parts of soundness

pub sound_apart : (n : ℕ) (rows : List ℕ) → Sound n rows → Apart rows
sound_apart n rows s i l = (s i i l).0 refl

pub sound_bounded : (n : ℕ) (rows : List ℕ) → Sound n rows → Bounded n rows
sound_bounded n rows s i j l = (s i j l).1

pub sound_mutual : (n : ℕ) (rows : List ℕ) → Sound n rows → Mutual rows
sound_mutual n rows s i j l = (s i j l).2

-- ---- rows that are not there

pub empty_right : (n : ℕ) (rows : List ℕ) (i : ℕ) → get_or rows i 0 ≡ 0 → Right n rows i
empty_right n rows i e j l = absurd (omega (arith, l, bit-zero j, ap (λ (x : ℕ). bit x j) e))

pub past_right : (n : ℕ) (rows : List ℕ) (i : ℕ) → length rows ≤ i → Right n rows i
past_right n rows i l = empty_right n rows i (get_or_past rows i 0 l)

-- ---- what a chart's rows are

module _ (n : ℕ) (rows : List ℕ) (b : Bounded n rows) (m : Mutual rows) where
  pub linked-below : (i j : ℕ) → Linked rows i j → (i < n) × (j < n)
  linked-below i j l = (b j i (m i j l), b i j l)

  pub past_empty : (i : ℕ) → n ≤ i → get_or rows i 0 ≡ 0
  past_empty i h = same_bits (get_or rows i 0) 0 (λ j.
      not_in (get_or rows i 0) j (λ l. omega (arith, (linked-below i j l).0)) ∙ sym (bit-zero j))

pub own_lacks : (rows : List ℕ) → Apart rows → (i : ℕ) → has (get_or rows i 0) i ≡ false
own_lacks rows a i = bit_lacks (get_or rows i 0) i (not_in (get_or rows i 0) i (a i))

pub linked_both : (rows : List ℕ) → Mutual rows → (i j : ℕ) → has (get_or rows i 0) j ≡ has (get_or rows j 0) i
linked_both rows m i j = same_from_decides _ _ (has_decides (get_or rows i 0) j)
    (Decides-like (has (get_or rows j 0) i) (m j i) (m i j) (has_decides (get_or rows j 0) i))
