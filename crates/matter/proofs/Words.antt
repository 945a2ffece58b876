-- A word and its eight bytes. Assumes nothing.
--   Places, places   each byte of a word by its place
--   top_byte         the highest byte of a word is what lies above the other seven
--   bytes_of_word_in   the bytes of the number that eight bytes are
--   word_in_bytes    the number that the bytes of a word are
use Rattle.std.proofs.Common.{◌≡◌, ℕ, ◌+◌, ◌*◌, ◌/◌, ◌%◌, ◌^◌, ◌<◌, ◌≤◌, List, [], ◌∷◌, length, get_or, refl, ap, arith}
use Rattle.std.proofs.lemmas.List.{drop_all}
use Rattle.matter.specs.Words.{word_bytes, word_in}
use Rattle.matter.proofs.Apart.{apart}

pub record Places (w : ℕ) (bs : List ℕ) : Type 0 where
  pub at0 : get_or bs 0 0 ≡ w / 72057594037927936 % 256
  pub at1 : get_or bs 1 0 ≡ w / 281474976710656 % 256
  pub at2 : get_or bs 2 0 ≡ w / 1099511627776 % 256
  pub at3 : get_or bs 3 0 ≡ w / 4294967296 % 256
  pub at4 : get_or bs 4 0 ≡ w / 16777216 % 256
  pub at5 : get_or bs 5 0 ≡ w / 65536 % 256
  pub at6 : get_or bs 6 0 ≡ w / 256 % 256
  pub at7 : get_or bs 7 0 ≡ w % 256

pub places : (w : ℕ) (bs : List ℕ) → bs ≡ word_bytes w → Places w bs
places w bs e = record {
  at0 = ap (λ (l : List ℕ). get_or l 0 0) e;
  at1 = ap (λ (l : List ℕ). get_or l 1 0) e;
  at2 = ap (λ (l : List ℕ). get_or l 2 0) e;
  at3 = ap (λ (l : List ℕ). get_or l 3 0) e;
  at4 = ap (λ (l : List ℕ). get_or l 4 0) e;
  at5 = ap (λ (l : List ℕ). get_or l 5 0) e;
  at6 = ap (λ (l : List ℕ). get_or l 6 0) e;
  at7 = ap (λ (l : List ℕ). get_or l 7 0) e;
}

-- the highest byte of a word of eight bytes is all that lies above the other seven
pub top_byte : (w : ℕ) → w < 2 ^ 64 → w / 72057594037927936 ≡ w / 72057594037927936 % 256
top_byte w h = omega arith

eight : (a b c d e f g h w : ℕ) → a < 256 → b < 256 → c < 256 → d < 256 → e < 256 → f < 256 → g < 256 → h < 256
    → w ≡ a * 72057594037927936 + b * 281474976710656 + c * 1099511627776 + d * 4294967296 + e * 16777216 + f * 65536 + g * 256 + h
    → word_bytes w ≡ a ∷ b ∷ c ∷ d ∷ e ∷ f ∷ g ∷ h ∷ []
eight a b c d e f g h w la lb lc ld le lf lg lh is =
    let ea : w / 72057594037927936 % 256 ≡ a = omega arith in
    let eb : w / 281474976710656 % 256 ≡ b = omega arith in
    let ec : w / 1099511627776 % 256 ≡ c = omega arith in
    let ed : w / 4294967296 % 256 ≡ d = omega arith in
    let ee : w / 16777216 % 256 ≡ e = omega arith in
    let ef : w / 65536 % 256 ≡ f = omega arith in
    let eg : w / 256 % 256 ≡ g = omega arith in
    let eh : w % 256 ≡ h = omega arith in
    cc

pub bytes_of_word_in : (bs : List ℕ) → length bs ≡ 8 → ((i : ℕ) → get_or bs i 0 < 256) → word_bytes (word_in bs) ≡ bs
bytes_of_word_in bs l fits =
    let s : 8 ≤ length bs = omega arith in
    let m : length bs ≤ 8 = omega arith in
    let e = apart 8 0 bs s in
    let n = drop_all 8 bs m in
    let k = eight (get_or bs 0 0) (get_or bs 1 0) (get_or bs 2 0) (get_or bs 3 0) (get_or bs 4 0) (get_or bs 5 0) (get_or bs 6 0) (get_or bs 7 0) (word_in bs)
    (fits 0) (fits 1) (fits 2) (fits 3) (fits 4) (fits 5) (fits 6) (fits 7) refl in
    cc

pub word_in_bytes : (w : ℕ) → w < 2 ^ 64 → word_in (word_bytes w) ≡ w
word_in_bytes w small = omega arith
