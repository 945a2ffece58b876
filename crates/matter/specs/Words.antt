-- A word and its eight bytes, the highest first. Assumes nothing.
--   word_bytes    the bytes of a word
--   word_in       the number that eight bytes are
use Rattle.std.specs.Prelude.{ℕ, ◌+◌, ◌*◌, ◌/◌, ◌%◌, List, [], ◌∷◌, slice_index}

abbrev pub word_bytes : ℕ → List ℕ
word_bytes w =
    (w / 72057594037927936 % 256)
    ∷ (w / 281474976710656 % 256)
    ∷ (w / 1099511627776 % 256)
    ∷ (w / 4294967296 % 256)
    ∷ (w / 16777216 % 256)
    ∷ (w / 65536 % 256)
    ∷ (w / 256 % 256)
    ∷ (w % 256)
    ∷ []

abbrev pub word_in : List ℕ → ℕ
word_in bs =
    slice_index bs 0 * 72057594037927936
    + slice_index bs 1 * 281474976710656
    + slice_index bs 2 * 1099511627776
    + slice_index bs 3 * 4294967296
    + slice_index bs 4 * 16777216
    + slice_index bs 5 * 65536
    + slice_index bs 6 * 256
    + slice_index bs 7
