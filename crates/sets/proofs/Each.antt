-- The list of what is made for each craft of a set. Assumes nothing.
use Rattle.std.proofs.Common.{◌≡◌, ℕ, zero, suc, ◌+◌, ◌-◌, ◌*◌, ◌/◌, ◌%◌, ◌^◌, ◌<◌, ◌≤◌, true, false, cond, List, [], ◌∷◌, ◌++◌, length, sym, refl, ap, ◌∙◌, subst, inl, inr, add-zero, add-suc, mod-eq_of_lt, add-one, arith}
use lib.Count.{ones, ones_step, ones_cat}
use lib.Pow.{mod-pow-add}
use Rattle.std.specs.List.{ContainsAt as Has, AllByRecursion as All}
use Rattle.std.proofs.lemmas.Nat.{mod_below, pow_pos}
use Rattle.std.proofs.ByRecursion.{All-append, has_push, has_append_left}
use Rattle.std.proofs.lemmas.List.{append-nil, length-append}
use Rattle.std.proofs.lemmas.Bool.{cases_Bool, cases_eq, cond-true, cond-false}
use Rattle.sets.specs.Sets.{bit, has, count, each}
use Rattle.sets.proofs.Bits.{bit_shift}
use Rattle.sets.proofs.Members.{has_in, lacks_bit}
use Rattle.sets.proofs.Counts.{count-zero}

-- one label more counts its bit
count_mod_more : (s k : ℕ) → count (s % 2 ^ suc k) ≡ bit s k + count (s % 2 ^ k)
count_mod_more s k =
    let a : ℕ = s / 2 ^ k % 2 in
    let e : s % 2 ^ suc k ≡ a * 2 ^ k + s % 2 ^ k = ap (λ (x : ℕ). s % 2 ^ x) (omega arith) ∙ mod-pow-add s 1 k in
    let z : a / 2 ≡ 0 = omega arith in
    omega (
      arith,
      ap ones e,
      ones_cat k a (s % 2 ^ k) (mod_below s (2 ^ k) (pow_pos k)),
      ones_step a,
      ap ones z,
      count-zero,
      bit_shift s k,
    )

module _ {X : Type 0} (f : ℕ → X) (s : ℕ) where
  pub each_none : each f s 0 ≡ []
  unfolding each
  each_none = refl

  -- one label more, in the set or not
  pub each_in : (k : ℕ) → has s k ≡ true → each f s (k + 1) ≡ each f s k ++ f k ∷ []
  unfolding each
  each_in k h = rw add-one (ap (λ (t : List X). each f s k ++ t) (cond-true (has s k) (f k ∷ []) [] h))

  pub each_out : (k : ℕ) → has s k ≡ false → each f s (k + 1) ≡ each f s k
  unfolding each
  each_out k h =
      rw add-one (ap (λ (t : List X). each f s k ++ t) (cond-false (has s k) (f k ∷ []) [] h) ∙ append-nil (each f s k))

  -- ---- how many

  pub length-each_more : (k : ℕ) → length (each f s (k + 1)) ≡ length (each f s k) + bit s k
  length-each_more k = elim (cases_Bool (has s k)) [
    | inl e ↦ omega (arith, ap length (each_in k e), length-append (each f s k) (f k ∷ []), has_in s k e)
    | inr e ↦ omega (arith, ap length (each_out k e), lacks_bit s k e)
  ]

  pub length-each : (n : ℕ) → length (each f s n) ≡ count (s % 2 ^ n)
  length-each zero =
      let z : s % 2 ^ 0 ≡ 0 = omega arith in
      omega (arith, ap length each_none, ap ones z, count-zero)
  length-each (suc n) = omega (arith, length-each n, rw add-one at (length-each_more n), count_mod_more s n)

  -- a set within n labels has as many made for it as members
  pub length-each-count : (n : ℕ) → s < 2 ^ n → length (each f s n) ≡ count s
  length-each-count n h = length-each n ∙ ap ones (mod-eq_of_lt h)

  each_add : (k d : ℕ) → length (each f s k) ≤ length (each f s (k + d))
  unfolding each
  each_add k zero = rw add-zero (omega arith)
  each_add k (suc d) =
      let h : length (each f s k) ≤ length (each f s (k + d)) = each_add k d in
      rw add-suc (omega (arith, length-append (each f s (k + d)) (cond (has s (k + d)) (f (k + d) ∷ []) [])))

  pub each_mono : (k n : ℕ) → k ≤ n → length (each f s k) ≤ length (each f s n)
  each_mono k n h =
      let e : k + (n - k) ≡ n = omega arith in
      let P : ℕ → Type 0 = λ m. length (each f s k) ≤ length (each f s m) in
      subst P e (each_add k (n - k))

  -- a craft of the set has a place below the number of those made for the set
  pub each-room : (k n : ℕ) → has s k ≡ true → k < n → length (each f s k) < length (each f s n)
  each-room k n h l =
      let m : length (each f s (k + 1)) ≤ length (each f s n) = each_mono (k + 1) n (omega arith) in
      omega (arith, ap length (each_in k h), length-append (each f s k) (f k ∷ []))

  -- a set of labels below n has at most n, and fewer where one is left out
  pub each_most : (n : ℕ) → length (each f s n) ≤ n
  unfolding each
  each_most zero = omega arith
  each_most (suc n) =
      let h : length (each f s n) ≤ n = each_most n in
      elim (cases_Bool (has s n)) [
        | inl e ↦ omega (arith, ap length (rw add-one at (each_in n e)), length-append (each f s n) (f n ∷ []))
        | inr e ↦ omega (arith, ap length (rw add-one at (each_out n e)))
      ]

  pub each_few : (j n : ℕ) → has s j ≡ false → j < n → length (each f s n) < n
  each_few j zero h l = absurd (omega arith)
  each_few j (suc n) h l = elim (cases_eq j n) [
    | inl e ↦
        let P : ℕ → Type 0 = λ i. has s i ≡ false in
        omega (arith, each_most n, ap length (rw add-one at (each_out n (subst P e h))))
    | inr e ↦
        let few : length (each f s n) < n = each_few j n h (omega arith) in
        elim (cases_Bool (has s n)) [
          | inl e ↦ omega (arith, ap length (rw add-one at (each_in n e)), length-append (each f s n) (f n ∷ []))
          | inr e ↦ omega (arith, ap length (rw add-one at (each_out n e)))
        ]
  ]

  -- ---- what is in the list

  pub each_all : (P : X → Type 0) (n : ℕ) → ((k : ℕ) → k < n → has s k ≡ true → P (f k)) → All P (each f s n)
  unfolding each
  each_all P zero h = tt
  each_all P (suc n) h =
      All-append P _ _ (each_all P n (λ k l e. h k (omega arith) e)) (elim (cases_Bool (has s n)) [
        | inl e ↦ subst (λ (t : List X). All P t) (sym (cond-true (has s n) (f n ∷ []) [] e)) (h n (omega arith) e, tt)
        | inr e ↦ subst (λ (t : List X). All P t) (sym (cond-false (has s n) (f n ∷ []) [] e)) tt
      ])

  pub each-has : (n k : ℕ) → k < n → has s k ≡ true → Has (each f s n) (f k)
  each-has zero k l h = absurd (omega arith)
  each-has (suc n) k l h = elim (cases_eq k n) [
    | inl e ↦
        let P : ℕ → Type 0 = λ i. has s i ≡ true in
        let Q : ℕ → Type 0 = λ i. Has (each f s (suc n)) (f i) in
        subst Q (sym e)
        (subst (λ (t : List X). Has t (f n)) (sym (rw add-one at (each_in n (subst P e h)))) (has_push (each f s n) (f n)))
    | inr ne ↦
        let there = each-has n k (omega arith) h in
        elim (cases_Bool (has s n)) [
          | inl e ↦ subst (λ (t : List X). Has t (f k)) (sym (rw add-one at (each_in n e))) (has_append_left (each f s n) (f n ∷ []) (f k) there)
          | inr e ↦ subst (λ (t : List X). Has t (f k)) (sym (rw add-one at (each_out n e))) there
        ]
  ]
