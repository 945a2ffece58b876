-- What is read off a booking line. Assumes nothing.
--   line_long       a line has 28 bytes
--   placed_line     a line put into a buffer stands at its place
--   digit           a hexadecimal digit by its number, below ten or not
--   hex_byte        two hexadecimal digits tell a byte
--   line_word       two lines that are the same have the same word
use Rattle.std.proofs.Common.{◌≡◌, ℕ, ◌+◌, ◌/◌, ◌%◌, ◌^◌, ◌<◌, ◌≤◌, true, false, ◌⊎◌, inl, inr, ltb, List, [], ◌∷◌, ◌++◌, take, drop, length, get_or, sym, refl, ap, ◌∙◌, ⊎_elim, arith}
use Rattle.std.proofs.Math.Seq.{take-append_seam, drop-append_seam}
use Rattle.std.proofs.lemmas.Bool.{cases_Bool, cond-true, cond-false, ltb-true, ltb-false}
use Rattle.std.proofs.lemmas.List.{length-take-le}
use Rattle.matter.specs.Words.{word_bytes, word_in}
use Rattle.matter.proofs.Words.{word_in_bytes}
use Rattle.frames.specs.Bytes.{placed}
use Rattle.frames.specs.Lines.{hex, line, line_length, line_at}

pub line_long : (c o k w : ℕ) → length (line c o k w) ≡ line_length
line_long c o k w = refl

pub placed_line : (buf : List ℕ) (at c o k w : ℕ) → at + line_length ≤ length buf → line_at (placed buf at (line c o k w)) at ≡ line c o k w
placed_line buf at c o k w room =
    let l = line c o k w in
    let before : length (take at buf) ≡ at = length-take-le at buf (omega (arith, room)) in
    let rest = l ++ drop (at + length l) buf in
    let off : drop at (take at buf ++ rest) ≡ rest = ap (λ (i : ℕ). drop i (take at buf ++ rest)) (sym before) ∙ drop-append_seam (take at buf) rest in
    ap (λ (t : List ℕ). take line_length t) off ∙ take-append_seam l (drop (at + length l) buf)

-- ---- a line tells its word

digit : (n : ℕ) → ((hex n ≡ 48 + n) × (n < 10)) ⊎ ((hex n ≡ 87 + n) × (10 ≤ n))
digit n = ⊎_elim
    (λ (h : ltb n 10 ≡ true). inl (cond-true (ltb n 10) _ _ h, ltb-true n 10 h))
    (λ (h : ltb n 10 ≡ false). inr (cond-false (ltb n 10) _ _ h, ltb-false n 10 h))
    (cases_Bool (ltb n 10))

hex_apart : (n m : ℕ) → n < 16 → m < 16 → hex n ≡ hex m → n ≡ m
hex_apart n m ln lm e = ⊎_elim
    (λ p. ⊎_elim (λ q. omega (arith, p.0, q.0, e)) (λ q. absurd (omega (arith, p.0, p.1, q.0, q.1, e, lm))) (digit m))
    (λ p. ⊎_elim (λ q. absurd (omega (arith, p.0, p.1, q.0, q.1, e, ln))) (λ q. omega (arith, p.0, q.0, e)) (digit m))
    (digit n)

hex_byte : (a b : ℕ) → a < 256 → b < 256 → hex (a / 16) ≡ hex (b / 16) → hex (a % 16) ≡ hex (b % 16) → a ≡ b
hex_byte a b la lb high low =
    let h = hex_apart (a / 16) (b / 16) (omega arith) (omega arith) high in
    let l = hex_apart (a % 16) (b % 16) (omega arith) (omega arith) low in
    omega (arith, h, l)

pub line_word : (c o k w b p j v : ℕ) → w < 2 ^ 64 → v < 2 ^ 64 → line c o k w ≡ line b p j v → w ≡ v
line_word c o k w b p j v fw fv e =
    let same : (i : ℕ) → get_or (line c o k w) i 0 ≡ get_or (line b p j v) i 0 = λ i. ap (λ (t : List ℕ). get_or t i 0) e in
    let b0 = hex_byte (w / 72057594037927936 % 256) (v / 72057594037927936 % 256) (omega arith) (omega arith) (same 11) (same 12) in
    let b1 = hex_byte (w / 281474976710656 % 256) (v / 281474976710656 % 256) (omega arith) (omega arith) (same 13) (same 14) in
    let b2 = hex_byte (w / 1099511627776 % 256) (v / 1099511627776 % 256) (omega arith) (omega arith) (same 15) (same 16) in
    let b3 = hex_byte (w / 4294967296 % 256) (v / 4294967296 % 256) (omega arith) (omega arith) (same 17) (same 18) in
    let b4 = hex_byte (w / 16777216 % 256) (v / 16777216 % 256) (omega arith) (omega arith) (same 19) (same 20) in
    let b5 = hex_byte (w / 65536 % 256) (v / 65536 % 256) (omega arith) (omega arith) (same 21) (same 22) in
    let b6 = hex_byte (w / 256 % 256) (v / 256 % 256) (omega arith) (omega arith) (same 23) (same 24) in
    let b7 = hex_byte (w % 256) (v % 256) (omega arith) (omega arith) (same 25) (same 26) in
    let bytes : word_bytes w ≡ word_bytes v = λ i. b0 i ∷ b1 i ∷ b2 i ∷ b3 i ∷ b4 i ∷ b5 i ∷ b6 i ∷ b7 i ∷ [] in
    sym (word_in_bytes w fw) ∙ ap word_in bytes ∙ word_in_bytes v fv
