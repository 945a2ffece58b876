-- Empty rows after the rows of a chart change no link. Assumes nothing.
--   getD_padded      each row is as it was, or empty
--   length-padded    there is one for each label
--   take-padded      the first rows are those given
--   linked-padded, padded-linked, sound-padded   the links are the same, and soundness is
use Rattle.std.proofs.Common.{◌≡◌, ℕ, ◌-◌, ◌<◌, ◌≤◌, List, length, get_or, take, replicate, sym, refl, ◌∙◌, subst, ⊎_elim, arith}
use Rattle.std.proofs.lemmas.List.{get_or_append_left, get_or-append_right, get_or-replicate, get_or_past, length-append, length-replicate, take_at}
use Rattle.std.proofs.lemmas.Bool.{cases_lt}
use Rattle.sets.specs.Sets.{In, labels}
use Rattle.charts.specs.Rows.{Linked, Sound, padded}

getD_zeros : (k i : ℕ) → get_or {A = ℕ} (replicate k 0) i 0 ≡ 0
getD_zeros k i = ⊎_elim
    (λ (l : i < k). get_or-replicate {A = ℕ} k i 0 0 l)
    (λ g. get_or_past {X = ℕ} (replicate k 0) i 0 (omega (arith, length-replicate {A = ℕ} k 0))) (cases_lt i k)

pub getD_padded : (rows : List ℕ) (i : ℕ) → get_or (padded rows) i 0 ≡ get_or rows i 0
getD_padded rows i = ⊎_elim
    (λ (l : i < length rows). get_or_append_left rows (replicate (labels - length rows) 0) 0 i l)
    (λ g.
    get_or-append_right rows (replicate (labels - length rows) 0) (length rows) i 0 refl g
    ∙ getD_zeros (labels - length rows) (i - length rows)
    ∙ sym (get_or_past rows i 0 g))
    (cases_lt i (length rows))

pub length-padded : (rows : List ℕ) → length rows ≤ labels → length (padded rows) ≡ labels
length-padded rows h =
    omega (arith, length-append rows (replicate (labels - length rows) 0), length-replicate {A = ℕ} (labels - length rows) 0)

pub take-padded : (rows : List ℕ) (n : ℕ) → n ≡ length rows → take n (padded rows) ≡ rows
take-padded rows n e = take_at rows (replicate (labels - length rows) 0) n (sym e)

pub linked-padded : (rows : List ℕ) (i j : ℕ) → Linked (padded rows) i j → Linked rows i j
linked-padded rows i j l = subst (In j) (getD_padded rows i) l

pub padded-linked : (rows : List ℕ) (i j : ℕ) → Linked rows i j → Linked (padded rows) i j
padded-linked rows i j l = subst (In j) (sym (getD_padded rows i)) l

pub sound-padded : (n : ℕ) (rows : List ℕ) → Sound n rows → Sound n (padded rows)
sound-padded n rows s i j l =
    let r = s i j (linked-padded rows i j l) in
    (r.0, r.1, padded-linked rows j i r.2)
