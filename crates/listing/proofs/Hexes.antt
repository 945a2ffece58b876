-- Numbers as `{:02x}` and `{:016x}` write them. Assumes nothing.
--   byte_text   two digits of a byte
--   word_text   sixteen digits of a word, two for each of its bytes
use Rattle.std.proofs.Common.{◌≡◌, ℕ, zero, suc, ◌+◌, ◌-◌, ◌/◌, ◌%◌, ◌^◌, ◌<◌, ◌≤◌, ◌==◌, false, List, [], ◌∷◌, ◌++◌, length, replicate, sym, refl, ap, ◌∙◌, ⊎_elim, append_assoc, add-one, arith}
use Rattle.std.proofs.lemmas.Bool.{cases_Bool, cond-true, cond-false, eqb-true, eq-eqb}
use Rattle.std.proofs.lemmas.Fmt.{hex_byte}
use Rattle.std.proofs.lemmas.List.{append-nil, replicate_more}
use Rattle.std.specs.Fmt.{digits, digits_onto, padded_integral, char_count, format_spec}
use Rattle.matter.specs.Words.{word_bytes}
use Rattle.frames.specs.Lines.{hex, hexes}

pub byte_text : (n : ℕ) → n < 256 → padded_integral (format_spec 32 0 4 2 (2 ^ 64 - 1)) false [] (digits 16 false n) ≡ hexes (n ∷ [])
byte_text n small = hex_byte false n small

-- the last k digits of a number, and others after them
abbrev last : ℕ → ℕ → List ℕ → List ℕ
last zero n after = after
last (suc k) n after = last k (n / 16) (hex (n % 16) ∷ after)

-- a number has at most k digits
abbrev Within : ℕ → ℕ → Type 0
Within zero n = n ≡ 0
Within (suc k) n = Within k (n / 16)

last_none : (k : ℕ) (after : List ℕ) → last k 0 after ≡ replicate k 48 ++ after
last_none zero after = refl
last_none (suc k) after =
    last_none k (48 ∷ after)
    ∙ sym (append_assoc (replicate k 48) (48 ∷ []) after)
    ∙ ap (λ (l : List ℕ). l ++ after) (replicate_more k 48 ∙ ap (λ (j : ℕ). replicate j 48) (add-one k))

-- zeros in front of others make them n
padded_to : ℕ → List ℕ → List ℕ
padded_to n ds = replicate (n - length ds) 48 ++ ds

-- zeros in front of the digits make them as many as are wanted: where one digit is left, and where there are more
filled_one : (k j n : ℕ) (after : List ℕ) → n / 16 ≡ 0
    → padded_to (suc k + length after) (digits_onto (suc j) 16 false n after) ≡ last (suc k) n after
unfolding padded_to
filled_one k j n after e =
    let one : digits_onto (suc j) 16 false n after ≡ hex (n % 16) ∷ after = cond-true (n / 16 == 0) _ _ (eq-eqb _ _ e) in
    let many : suc k + length after - suc (length after) ≡ k = omega arith in
    ap (λ (ds : List ℕ). padded_to (suc k + length after) ds) one
    ∙ ap (λ (m : ℕ). replicate m 48 ++ (hex (n % 16) ∷ after)) many
    ∙ sym (last_none k (hex (n % 16) ∷ after))
    ∙ ap (λ (m : ℕ). last k m (hex (n % 16) ∷ after)) (sym e)

filled : (k j n : ℕ) (after : List ℕ) → k ≤ j → Within (suc k) n
    → padded_to (suc k + length after) (digits_onto (suc j) 16 false n after) ≡ last (suc k) n after
filled zero j n after le within = filled_one zero j n after within
filled (suc k) zero n after le within = absurd (omega arith)
filled (suc k) (suc j) n after le within =
    ⊎_elim
    (λ t. filled_one (suc k) (suc j) n after (eqb-true _ _ t))
    (λ f.
    let more : digits_onto (suc (suc j)) 16 false n after ≡ digits_onto (suc j) 16 false (n / 16) (hex (n % 16) ∷ after) = cond-false (n / 16 == 0) _ _ f in
    let many : suc (suc k) + length after ≡ suc k + suc (length after) = omega arith in
    ap (λ (ds : List ℕ). padded_to (suc (suc k) + length after) ds) more
    ∙ ap (λ (m : ℕ). padded_to m (digits_onto (suc j) 16 false (n / 16) (hex (n % 16) ∷ after))) many
    ∙ filled k j (n / 16) (hex (n % 16) ∷ after) (omega arith) within)
    (cases_Bool (n / 16 == 0))

-- two digits at a time are a byte at a time
bytewise : (k m n : ℕ) (bs : List ℕ) → m / 256 ≡ n → last (suc (suc k)) m (hexes bs) ≡ last k n (hexes (m % 256 ∷ bs))
bytewise k m n bs e =
    let rest : m / 16 / 16 ≡ n = omega arith in
    let high : m / 16 % 16 ≡ m % 256 / 16 = omega arith in
    let low : m % 16 ≡ m % 256 % 16 = omega arith in
    ap (λ (x : ℕ). last k x (hex (m / 16 % 16) ∷ hex (m % 16) ∷ hexes bs)) rest
    ∙ ap (λ (x : ℕ). last k n (hex x ∷ hex (m % 16) ∷ hexes bs)) high
    ∙ ap (λ (x : ℕ). last k n (hex (m % 256 / 16) ∷ hex x ∷ hexes bs)) low

sixteen : (n : ℕ) → last 16 n [] ≡ hexes (word_bytes n)
sixteen n =
    let b7 : List ℕ = n % 256 ∷ [] in
    let b6 : List ℕ = n / 256 % 256 ∷ b7 in
    let b5 : List ℕ = n / 65536 % 256 ∷ b6 in
    let b4 : List ℕ = n / 16777216 % 256 ∷ b5 in
    let b3 : List ℕ = n / 4294967296 % 256 ∷ b4 in
    let b2 : List ℕ = n / 1099511627776 % 256 ∷ b3 in
    let b1 : List ℕ = n / 281474976710656 % 256 ∷ b2 in
    bytewise 14 n (n / 256) [] refl
    ∙ bytewise 12 (n / 256) (n / 65536) b7 (omega arith)
    ∙ bytewise 10 (n / 65536) (n / 16777216) b6 (omega arith)
    ∙ bytewise 8 (n / 16777216) (n / 4294967296) b5 (omega arith)
    ∙ bytewise 6 (n / 4294967296) (n / 1099511627776) b4 (omega arith)
    ∙ bytewise 4 (n / 1099511627776) (n / 281474976710656) b3 (omega arith)
    ∙ bytewise 2 (n / 281474976710656) (n / 72057594037927936) b2 (omega arith)
    ∙ bytewise 0 (n / 72057594037927936) (n / 72057594037927936 / 256) b1 refl

pub word_text : (n : ℕ) → n < 2 ^ 64 → padded_integral (format_spec 32 0 4 16 (2 ^ 64 - 1)) false [] (digits 16 false n) ≡ hexes (word_bytes n)
unfolding padded_integral char_count digits padded_to
word_text n small =
    let ds : List ℕ = digits_onto 64 16 false n [] in
    let room : 16 - length ds - 0 - 0 ≡ 16 + 0 - length ds = omega arith in
    ap (λ (k : ℕ). replicate k 48 ++ (ds ++ [])) room
    ∙ ap (λ (l : List ℕ). replicate (16 + 0 - length ds) 48 ++ l) (append-nil ds)
    ∙ filled 15 63 n [] (omega arith) (omega arith)
    ∙ sixteen n
