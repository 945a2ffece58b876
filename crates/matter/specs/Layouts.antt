-- Matter as a word: a kind's number in the highest byte, then its fields, each a big-endian number. Assumes nothing.
--   Field, field    how many bytes a field takes, and its least and its greatest value
--   Kind            a kind's number, and its fields in the order of the word: seven bytes
--   width           how many bytes fields take
--   packed          values in the bytes of their fields, one after the other, as one number
--   unpacked        the values that fields have in a number
--   word_of         the word of a kind's values
--   top             the highest byte of a word
--   numbered        the first of some kinds that has a number
--   out_of_range    the refusal by 11, with a byte's place in the word
--   Held            what a test of a part that begins at a byte answers
--   field_causes    each field out of range, by its first byte, from a given byte on
--   word_causes     what is wrong with a word of a kind; it is wrong in its highest byte where it is of none
--   word_refusal    why a word is none of some kinds
--   Reads           of some kinds, a word is of this kind, with these values
--   Made            what a constructor answers of values
--   ReadAs          what a reader answers of a word
--   WrittenAgain    a word that is read comes back
use Rattle.std.specs.Prelude.{◌≡◌, ℕ, ◌+◌, ◌*◌, ◌/◌, ◌%◌, ◌^◌, Bool, true, false, cond, ◌||◌, List, [], ◌∷◌, Some, None, Ok, Err, Option, Result, ◌==◌, nat_lt}
use Rattle.refusals.specs.declared.Fault.{Fault}
use Rattle.refusals.specs.Refusals.{Told, Cause, cause, refusal, told}

pub record Field : Type 0 where
  pub bytes : ℕ
  pub least : ℕ
  pub most : ℕ

abbrev pub field : ℕ → ℕ → ℕ → Field
field b l m = record { bytes = b; least = l; most = m }

pub record Kind : Type 0 where
  pub number : ℕ
  pub layout : List Field

abbrev pub width : List Field → ℕ
width [] = 0
width (f ∷ fs) = f.bytes + width fs

abbrev pub packed : List Field → List ℕ → ℕ
packed [] vs = 0
packed (f ∷ fs) [] = 0
packed (f ∷ fs) (v ∷ vs) = v * 256 ^ width fs + packed fs vs

abbrev pub unpacked : List Field → ℕ → List ℕ
unpacked [] w = []
unpacked (f ∷ fs) w = (w / 256 ^ width fs % 256 ^ f.bytes) ∷ unpacked fs w

abbrev pub word_of : Kind → List ℕ → ℕ
word_of k vs = k.number * 256 ^ 7 + packed k.layout vs

abbrev pub top : ℕ → ℕ
top w = w / 256 ^ 7

abbrev pub numbered : List Kind → ℕ → Option Kind
numbered [] n = None
numbered (k ∷ ks) n = cond (n == k.number) (Some k) (numbered ks n)

abbrev pub outside : Field → ℕ → Bool
outside f v = nat_lt v f.least || nat_lt f.most v

abbrev pub out_of_range : ℕ → Bool → Cause
out_of_range at b = cause 1 11 (at ∷ []) b

abbrev pub Held : ℕ → Bool → Result Unit Fault → Type 0
Held at b (Ok _) = b ≡ true
Held at b (Err e) = (b ≡ false) × (told e ≡ (out_of_range at true).tells)

abbrev pub field_causes : ℕ → List Field → List ℕ → List Cause
field_causes at [] vs = []
field_causes at (f ∷ fs) [] = []
field_causes at (f ∷ fs) (v ∷ vs) = out_of_range at (outside f v) ∷ field_causes (at + f.bytes) fs vs

abbrev pub word_causes : Option Kind → ℕ → List Cause
word_causes None w = out_of_range 0 true ∷ []
word_causes (Some k) w = field_causes 1 k.layout (unpacked k.layout w)

abbrev pub word_refusal : List Kind → ℕ → Option Told
word_refusal ks w = refusal (word_causes (numbered ks (top w)) w)

pub record Reads (ks : List Kind) (w : ℕ) (k : Kind) (vs : List ℕ) : Type 0 where
  pub accepted : word_refusal ks w ≡ None
  pub kind : numbered ks (top w) ≡ Some k
  pub values : unpacked k.layout w ≡ vs

abbrev pub Made : {M : Type 0} → Kind → (M → List ℕ) → List ℕ → Result M Fault → Type 0
Made k fields vs (Ok m) = (refusal (field_causes 1 k.layout vs) ≡ None) × (fields m ≡ vs)
Made k fields vs (Err e) = refusal (field_causes 1 k.layout vs) ≡ Some (told e)

abbrev pub ReadAs : {M : Type 0} → List Kind → (M → Kind) → (M → List ℕ) → ℕ → Result M Fault → Type 0
ReadAs ks kind fields w (Ok m) = Reads ks w (kind m) (fields m)
ReadAs ks kind fields w (Err e) = word_refusal ks w ≡ Some (told e)

abbrev pub WrittenAgain : List Kind → ℕ → Result ℕ Fault → Type 0
WrittenAgain ks w (Ok v) = (word_refusal ks w ≡ None) × (v ≡ w)
WrittenAgain ks w (Err e) = word_refusal ks w ≡ Some (told e)
