-- A word's refusal as a cause. Assumes nothing.
--   word_clear      where a word has no refusal, it is no cause
--   clear_word      a word that is no cause has no refusal
use Rattle.std.proofs.Common.{◌≡◌, true, Some, None, Option, refl}
use Rattle.std.proofs.lemmas.Bool.{true≢false}
use Rattle.refusals.specs.Refusals.{Told}
use Rattle.refusals.proofs.FirstCause.{Clear, passed}
use Rattle.agreement.specs.Flights.{word_cause}

pub word_clear : (r : Option Told) → r ≡ None → Clear (word_cause r)
word_clear None e = tt
word_clear (Some v) e = absurd (true≢false (passed true v None e).0)

pub clear_word : (r : Option Told) → Clear (word_cause r) → r ≡ None
clear_word None h = refl
clear_word (Some v) h = absurd (true≢false h.0)
