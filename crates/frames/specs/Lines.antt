-- The booking line: 28 bytes. Assumes nothing.
--   booking_causes   why a booking is none: a label that no craft has, craft before origin, or a number above 3
--   Booked           what the constructor of a booking answers
--   hex              one lowercase hexadecimal digit, as its ASCII code
--   hexes            two digits for each byte
--   line             "book", craft, origin, number and word, one space between, and a line feed
--   line_bytes       the line of a booking
--   line_length      the bytes of a line, 28
--   line_at          the bytes of a buffer where a line stands, from a place on
use Rattle.std.specs.Prelude.{◌≡◌, ℕ, ◌+◌, ◌/◌, ◌%◌, cond, List, [], ◌∷◌, ◌++◌, take, drop, Some, None, Ok, Err, codes, Result, nat_le, nat_lt}
use Rattle.refusals.specs.declared.Fault.{Fault}
use Rattle.frames.specs.declared.bookings.Booking.{Booking}
use Rattle.matter.specs.Words.{word_bytes}
use Rattle.frames.specs.Notes.{last_number}
use Rattle.sets.specs.Sets.{labels}
use Rattle.refusals.specs.Refusals.{Cause, cause, refusal, told}

abbrev pub booking_causes : ℕ → ℕ → ℕ → List Cause
booking_causes craft origin number =
    cause 1 1 (craft ∷ []) (nat_le labels craft) ∷ cause 1 1 (origin ∷ []) (nat_le labels origin) ∷ cause 1 5 (number ∷ []) (nat_lt last_number number) ∷ []

pub record Holds (b : Booking) (craft origin number word : ℕ) : Type 0 where
  pub craft_is : b.craft ≡ craft
  pub origin_is : b.origin ≡ origin
  pub number_is : b.number ≡ number
  pub word_is : b.word ≡ word

abbrev pub Booked : ℕ → ℕ → ℕ → ℕ → Result Booking Fault → Type 0
Booked craft origin number word (Ok b) = (refusal (booking_causes craft origin number) ≡ None) × Holds b craft origin number word
Booked craft origin number word (Err e) = refusal (booking_causes craft origin number) ≡ Some (told e)

abbrev pub hex : ℕ → ℕ
hex n = cond (nat_lt n 10) (48 + n) (87 + n)

abbrev pub hexes : List ℕ → List ℕ
hexes [] = []
hexes (b ∷ bs) = hex (b / 16) ∷ hex (b % 16) ∷ hexes bs

abbrev pub line : ℕ → ℕ → ℕ → ℕ → List ℕ
line craft origin number word = codes "book " ++ (hex craft ∷ 32 ∷ hex origin ∷ 32 ∷ hex number ∷ 32 ∷ (hexes (word_bytes word) ++ (10 ∷ [])))

abbrev pub line_bytes : Booking → List ℕ
line_bytes b = line b.craft b.origin b.number b.word

abbrev pub line_length : ℕ
line_length = 28

abbrev pub line_at : List ℕ → ℕ → List ℕ
line_at buf at = take line_length (drop at buf)
