-- One member less, and one element less of what is made for each member. Assumes nothing.
--   removed_left, removed-right, removed_last   an element taken out of two lists put together
--   has-removed, all_removed   what is left in a list of which one element was taken out
--   each_at       the element that is made for a member stands behind those of the lower ones
--   each_same     below a label at which alone two sets differ, they are made into the same list
--   each_struck   a set that lacks one member of another is made into the other's list without that member's element
--   each_empty    nothing is made for the empty set
--   each-only     one element is made for a set of one member
--   each_some     something is made for any other set
use Rattle.std.proofs.Common.{◌≡◌, ℕ, zero, suc, ◌+◌, ◌-◌, ◌^◌, ◌<◌, ◌≤◌, Bool, true, false, cond, ◌⊎◌, List, [], ◌∷◌, ◌++◌, length, get_or, take, drop, sym, refl, ap, ◌∙◌, subst, inl, inr, ⊎_elim, suc-add, zero-add, add-one, arith, pow_pos}
use Rattle.std.specs.List.{remove, ContainsAt as Has, AllByRecursion as All}
use Rattle.std.proofs.lemmas.List.{append_assoc, take-append-le, drop-append-le, get_or_at, get_or_append_left, nil_from_length}
use Rattle.std.proofs.lemmas.List.Edits.{length-remove, get_or-remove_below, get_or-remove_above}
use Rattle.std.proofs.ByRecursion.{All-append, All-take, All-drop}
use Rattle.std.proofs.lemmas.Bool.{cases_eq, cases_order}
use Rattle.sets.specs.Sets.{has, only, each}
use Rattle.sets.proofs.Each.{each_none, each_in, each_out, each-room, length-each-count}
use Rattle.sets.proofs.Members.{only-has, only_lacks}
use Rattle.sets.proofs.Counts.{count-zero}
use Rattle.sets.proofs.LowestMember.{count_cleared}

module _ {X : Type 0} where
  pub removed_left : (xs ys : List X) (j : ℕ) → j < length xs → remove (xs ++ ys) j ≡ remove xs j ++ ys
  removed_left xs ys j l =
      ap (λ (t : List X). t ++ drop (suc j) (xs ++ ys)) (take-append-le j xs ys (omega arith))
      ∙ ap (λ (t : List X). take j xs ++ t) (drop-append-le (suc j) xs ys (omega arith))
      ∙ sym (append_assoc (take j xs) (drop (suc j) xs) ys)

  pub removed-right : (xs ys : List X) (j : ℕ) → remove (xs ++ ys) (length xs + j) ≡ xs ++ remove ys j
  removed-right [] ys j = ap (λ (i : ℕ). remove ys i) (zero-add j)
  removed-right (x ∷ xs) ys j =
      ap (λ (i : ℕ). remove (x ∷ (xs ++ ys)) i) (suc-add (length xs) j) ∙ ap (λ (t : List X). x ∷ t) (removed-right xs ys j)

  pub removed_last : (xs : List X) (x : X) → remove (xs ++ x ∷ []) (length xs) ≡ xs
  removed_last [] x = refl
  removed_last (y ∷ xs) x = ap (λ (t : List X). y ∷ t) (removed_last xs x)

  -- an element other than the one taken out stays
  pub has-removed : (xs : List X) (k : ℕ) (x e : X) → k < length xs → get_or xs k e ≡ e → Has xs x → (e ≡ x) ⊎ Has (remove xs k) x
  has-removed xs k x e l r (i, li, at) =
      let n = length-remove xs k l in
      ⊎_elim (λ (q : i ≡ k). inl (sym r ∙ ap (λ (j : ℕ). get_or xs j e) (sym q) ∙ at e)) (⊎_elim
      (λ (b : i < k). inr (i, omega arith, λ d. get_or-remove_below xs k d i b l ∙ at d))
      (λ (b : k < i).
      let s : i - 1 + 1 ≡ i = omega arith in
      inr (i - 1, omega arith, λ d. get_or-remove_above xs k d (i - 1) (omega arith) l ∙ ap (λ (j : ℕ). get_or xs j d) s ∙ at d)))
      (cases_order i k)

  pub all_removed : (P : X → Type 0) (xs : List X) (k : ℕ) → All P xs → All P (remove xs k)
  all_removed P xs k h = All-append P _ _ (All-take P k xs h) (All-drop P (suc k) xs h)

module _ {X : Type 0} (f : ℕ → X) (s : ℕ) where
  -- the element that is made for a craft of the set
  pub each_at : (t n : ℕ) (d : X) → has s t ≡ true → t < n → get_or (each f s n) (length (each f s t)) d ≡ f t
  unfolding each
  each_at t zero d h l = absurd (omega arith)
  each_at t (suc n) d h l =
      elim (cases_eq t n) [
        | inl e ↦
            let P : ℕ → Type 0 = λ m. get_or (each f s (suc m)) (length (each f s t)) d ≡ f t in
            subst P e (ap (λ (xs : List X). get_or xs (length (each f s t)) d) (rw add-one at (each_in f s t h)) ∙ get_or_at (each f s t) (f t) [] d (length (each f s t)) refl)
        | inr e ↦
            get_or_append_left (each f s n) (cond (has s n) (f n ∷ []) []) d (length (each f s t)) (each-room f s t n h (omega arith)) ∙ each_at t n d h (omega arith)
      ]

  -- r has the same craft but t
  module _ (r t : ℕ) (h : has s t ≡ true) (out : has r t ≡ false) (same : (i : ℕ) → (i ≡ t → ⊥) → has r i ≡ has s i) where
    pub each_same : (n : ℕ) → n ≤ t → each f r n ≡ each f s n
    unfolding each
    each_same zero l = refl
    each_same (suc n) l =
        ap (λ (xs : List X). xs ++ cond (has r n) (f n ∷ []) []) (each_same n (omega arith))
        ∙ ap (λ (b : Bool). each f s n ++ cond b (f n ∷ []) []) (same n (λ e. omega arith))

    pub each_struck : (n : ℕ) → t < n → each f r n ≡ remove (each f s n) (length (each f s t))
    unfolding each
    each_struck zero l = absurd (omega arith)
    each_struck (suc n) l =
        elim (cases_eq t n) [
          | inl e ↦
              let P : ℕ → Type 0 = λ m. each f r (suc m) ≡ remove (each f s (suc m)) (length (each f s t)) in
              subst P e (
              rw add-one at (each_out f r t out) ∙ each_same t (omega arith) ∙ sym (removed_last (each f s t) (f t))
              ∙ ap (λ (xs : List X). remove xs (length (each f s t))) (sym (rw add-one at (each_in f s t h))))
          | inr e ↦
              let rest = cond (has s n) (f n ∷ []) [] in
              ap (λ (xs : List X). xs ++ cond (has r n) (f n ∷ []) []) (each_struck n (omega arith))
              ∙ ap (λ (b : Bool). remove (each f s n) (length (each f s t)) ++ cond b (f n ∷ []) []) (same n (λ q. e (sym q)))
              ∙ sym (removed_left (each f s n) rest (length (each f s t)) (each-room f s t n h (omega arith)))
        ]

pub each_empty : {X : Type 0} (f : ℕ → X) (n : ℕ) → each f 0 n ≡ []
each_empty f n = nil_from_length (each f 0 n) (length-each-count f 0 n (pow_pos n) ∙ count-zero)

pub each_some : {X : Type 0} (f : ℕ → X) (s n : ℕ) → s < 2 ^ n → (s ≡ 0 → ⊥) → 0 < length (each f s n)
each_some f s n l ne =
    let some : 0 < s = omega (arith, ne) in
    omega (arith, length-each-count f s n l, count_cleared s some)

-- nothing is made below the only member
each_before : {X : Type 0} (f : ℕ → X) (k n : ℕ) → n ≤ k → each f (only k) n ≡ []
each_before f k zero l = each_none f (only k)
each_before f k (suc n) l =
    ap (each f (only k)) (sym (add-one n)) ∙ each_out f (only k) n (only_lacks k n (λ e. omega arith)) ∙ each_before f k n (omega arith)

pub each-only : {X : Type 0} (f : ℕ → X) (k n : ℕ) → k < n → each f (only k) n ≡ f k ∷ []
each-only f k zero l = absurd (omega arith)
each-only {X} f k (suc n) l = ⊎_elim
    (λ (e : k ≡ n).
    ap (each f (only k)) (sym (add-one n)) ∙ each_in f (only k) n (ap (has (only k)) (sym e) ∙ only-has k)
    ∙ ap (λ (t : List X). t ++ f n ∷ []) (each_before f k n (omega arith)) ∙ ap (λ (i : ℕ). f i ∷ []) (sym e))
    (λ ne. ap (each f (only k)) (sym (add-one n)) ∙ each_out f (only k) n (only_lacks k n ne) ∙ each-only f k n (omega arith))
    (cases_eq k n)
