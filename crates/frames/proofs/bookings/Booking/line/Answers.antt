use Rattle.std.proofs.Common.{◌≡◌, ℕ, suc, ◌/◌, ◌%◌, ◌<◌, List, [], ◌∷◌, ◌++◌, length, get_or, codes, sym, ap, ◌∙◌, arith, rules}
use Rattle.std.specs.List.{flat_map}
use Rattle.std.proofs.lemmas.List.Concat.{flat_map-cons}
use Rattle.matter.specs.Words.{word_bytes}
use Rattle.frames.specs.declared.bookings.Booking.{Booking}
use Rattle.frames.specs.Lines.{hex, hexes, line_bytes}
use Rattle.frames.proofs.bookings.Booking.line.Goals as goal

-- the pairs of some bytes, one after the other, are the digits of the bytes
joined : (xs : List ℕ) (ys : List (List ℕ)) → length ys ≡ length xs → ((i : ℕ) → i < length xs → get_or ys i [] ≡ hexes (get_or xs i 0 ∷ []))
    → flat_map (λ y. y) ys ≡ hexes xs
joined [] [] l each = grind arith
joined [] (y ∷ ys) l each = absurd (omega arith)
joined (x ∷ xs) [] l each = absurd (omega arith)
joined (x ∷ xs) (y ∷ ys) l each =
    let rest = joined xs ys (omega arith) (λ i below. each (suc i) (omega arith)) in
    flat_map-cons (λ (z : List ℕ). z) y ys
    ∙ ap (λ (z : List ℕ). z ++ flat_map (λ y. y) ys) (each 0 (omega arith))
    ∙ ap (λ (z : List ℕ). hex (x / 16) ∷ hex (x % 16) ∷ z) rest

-- a line with its digits in their places
filled : (b : Booking) (craft origin number : ℕ) (word : List ℕ) → craft ≡ hex b.craft → origin ≡ hex b.origin → number ≡ hex b.number
    → word ≡ hexes (word_bytes b.word)
    → codes "book " ++ (craft ∷ 32 ∷ origin ∷ 32 ∷ number ∷ 32 ∷ (word ++ (10 ∷ []))) ≡ line_bytes b
filled b craft origin number word c o n w = cc

pub returns : goal.returns
returns c =
    let pair : (i : ℕ) → i < 8 → get_or c.map-word.result i [] ≡ hexes (get_or c.to_be_bytes.result i 0 ∷ []) =
    λ i below. let known = c.map-word.ensures.items.at i 0 [] (omega arith) in search rules in
    let eight = ap length c.to_be_bytes.ensures in
    let digits = joined c.to_be_bytes.result c.map-word.result (c.map-word.ensures.items.long ∙ sym eight) (λ i below. pair i (omega arith)) in
    let word = c.copy_from_slice.ensures.after ∙ c.as_flattened.ensures.value ∙ digits ∙ ap hexes c.to_be_bytes.ensures in
    filled c.args.self.now c.hex_digit.result c.hex_digit-2.result c.hex_digit-3.result c.copy_from_slice.new.self
    c.hex_digit.ensures c.hex_digit-2.ensures c.hex_digit-3.ensures word
