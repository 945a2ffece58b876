-- A list taken apart by position: its first n elements, then the rest. Assumes nothing.
use Rattle.std.proofs.Common.{◌≡◌, ℕ, zero, suc, ◌+◌, ◌<◌, ◌≤◌, List, ◌∷◌, length, get_or, drop, sym, ap, ◌∙◌, add-zero, arith, drop-cons}

-- the n elements of xs from i on, and then rest
abbrev pub parts : ℕ → ℕ → List ℕ → List ℕ → List ℕ
parts zero i xs rest = rest
parts (suc n) i xs rest = get_or xs i 0 ∷ parts n (suc i) xs rest

pub apart : (n i : ℕ) (xs : List ℕ) → i + n ≤ length xs → drop i xs ≡ parts n i xs (drop (i + n) xs)
apart zero i xs h = ap (λ (k : ℕ). drop k xs) (sym (add-zero i))
apart (suc n) i xs h =
    let here : i < length xs = omega arith in
    let rest : suc i + n ≤ length xs = omega arith in
    let e : suc i + n ≡ i + suc n = omega arith in
    drop-cons xs i 0 here ∙ ap (λ (r : List ℕ). get_or xs i 0 ∷ r) (apart n (suc i) xs rest ∙ ap (λ (k : ℕ). parts n (suc i) xs (drop k xs)) e)
