use Rattle.std.proofs.Common.{◌≡◌, ℕ, ◌/◌, ◌%◌, [], ◌∷◌, sym, refl, ap, ◌∙◌, arith, rules}
use Rattle.matter.specs.Layouts.{top, numbered}
use Rattle.matter.specs.Kinds.{keep_out, kept_out}
use Rattle.matter.specs.LayoutsLemmas.{made_read}
use Rattle.matter.proofs.Words.{places, top_byte}
use Rattle.matter.proofs.keep_outs.KeepOutMatter.of_word.Goals as goal

pub returns : goal.returns
returns c =
    let b = places c.args.word c.to_be_bytes.result c.to_be_bytes.ensures in
    let t = top_byte c.args.word (search rules) in
    let zone : c.args.word / 1099511627776 % 65536 ≡ c.from_be_bytes-zone.result = omega arith in
    let first : c.args.word / 65536 % 16777216 ≡ c.from_be_bytes-first.result = omega arith in
    let minutes : c.args.word / 1 % 65536 ≡ c.from_be_bytes-minutes.result = omega arith in
    let number : top c.args.word ≡ keep_out.number = t ∙ sym b.at0 ∙ search rules in
    let found = ap (λ (n : ℕ). numbered (keep_out ∷ []) n) number in
    made_read (keep_out ∷ []) keep_out (λ _. keep_out) kept_out c.args.word (c.from_be_bytes-zone.result ∷ c.from_be_bytes-first.result ∷ c.from_be_bytes-minutes.result ∷ []) c.new.result (λ m. refl) found (cc) c.new.ensures
