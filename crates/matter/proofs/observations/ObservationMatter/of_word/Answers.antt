use Rattle.std.proofs.Common.{◌≡◌, ℕ, ◌/◌, ◌%◌, [], ◌∷◌, get_or, sym, refl, ap, ◌∙◌, arith, rules}
use Rattle.matter.specs.Layouts.{top, numbered}
use Rattle.matter.specs.Kinds.{observation, observed}
use Rattle.matter.specs.LayoutsLemmas.{made_read}
use Rattle.matter.proofs.Words.{places, top_byte}
use Rattle.matter.proofs.observations.ObservationMatter.of_word.Goals as goal

pub returns : goal.returns
returns c =
    let b = places c.args.word c.to_be_bytes.result c.to_be_bytes.ensures in
    let t = top_byte c.args.word (search rules) in
    let target : c.args.word / 1099511627776 % 65536 ≡ c.from_be_bytes-target.result = omega arith in
    let start : c.args.word / 65536 % 16777216 ≡ c.from_be_bytes-start.result = omega arith in
    let seconds : c.args.word / 256 % 256 ≡ get_or c.to_be_bytes.result 6 0 = omega arith in
    let mode : c.args.word / 1 % 256 ≡ get_or c.to_be_bytes.result 7 0 = omega arith in
    let number : top c.args.word ≡ observation.number = t ∙ sym b.at0 ∙ search rules in
    let found = ap (λ (n : ℕ). numbered (observation ∷ []) n) number in
    made_read (observation ∷ []) observation (λ _. observation) observed c.args.word (c.from_be_bytes-target.result ∷ c.from_be_bytes-start.result ∷ get_or c.to_be_bytes.result 6 0 ∷ get_or c.to_be_bytes.result 7 0 ∷ []) c.new.result (λ m. refl) found (cc) c.new.ensures
