-- The laws of a word, for every kind: proved once over the list of its fields. Assumes nothing.
--   Fit               one value for each field, in its range, and the range within the field's bytes
--   packed_lt         packed values stay within their bytes
--   unpacked-packed   what was packed is unpacked, whatever stands above it
--   packed-unpacked   what is unpacked packs to the number's low bytes
--   Whole             a kind's number has one byte, and its fields seven
--   own_word_reads    the word of a kind's values is read as those values
--   read_word_again   a word that is read is the word of what was read
--   word_eight        a word has eight bytes
--   made_read         values made into a matter, where they stand in a word of its kind, are that word read
use Rattle.std.specs.Prelude.{◌≡◌, ℕ, ◌+◌, ◌*◌, ◌/◌, ◌%◌, ◌^◌, ◌<◌, ◌≤◌, List, [], ◌∷◌, Some, None, Ok, Err, Option, Result, ◌==◌, refl}
use Rattle.std.proofs.Common.{sym, ap, subst, ◌∙◌, ⊎_elim, mul_assoc, add-mul, div-add-mod', arith, lit<, pow-add}
use Rattle.std.proofs.Math.Nat.{mod-one, pow-le-pow_right}
use Rattle.std.proofs.Math.Arith.{digits_lt, digits_div, digits_mod, mod-mul}
use Rattle.std.proofs.lemmas.Bool.{eqb-true, le-ltb, or_from, cond-true, cond-false, cases_Bool}
use Rattle.refusals.specs.declared.Fault.{Fault}
use Rattle.refusals.specs.Refusals.{refusal}
use Rattle.matter.specs.Layouts.{Field, Kind, width, packed, unpacked, outside, word_of, top, numbered, field_causes, word_causes, Reads, Made, ReadAs}

abbrev pub Fit : List Field → List ℕ → Type 0
Fit [] [] = Unit {0}
Fit [] (v ∷ vs) = ⊥
Fit (f ∷ fs) [] = ⊥
Fit (f ∷ fs) (v ∷ vs) = (f.least ≤ v) × (v ≤ f.most) × (f.most < 256 ^ f.bytes) × Fit fs vs

pow256 : (n : ℕ) → 0 < 256 ^ n
pow256 n =
    let h : 256 ^ 0 ≤ 256 ^ n = pow-le-pow_right {n = 256} (lit< tt) {i = 0} {j = n} (omega arith) in omega arith

pub packed_lt : (fs : List Field) (vs : List ℕ) → Fit fs vs → packed fs vs < 256 ^ width fs
packed_lt [] [] h = lit< tt
packed_lt [] (v ∷ vs) h = absurd h
packed_lt (f ∷ fs) [] h = absurd h
packed_lt (f ∷ fs) (v ∷ vs) h =
    let small : v < 256 ^ f.bytes = omega (arith, h.1, h.2) in
    let e = pow-add 256 f.bytes (width fs) in
    let P : ℕ → Type 0 = λ n. v * 256 ^ width fs + packed fs vs < n in
    subst P (sym e) (digits_lt small (packed_lt fs vs h.3))

pub unpacked-packed : (fs : List Field) (vs : List ℕ) (above : ℕ) → Fit fs vs → unpacked fs (above * 256 ^ width fs + packed fs vs) ≡ vs
unpacked-packed [] [] above h = refl
unpacked-packed [] (v ∷ vs) above h = absurd h
unpacked-packed (f ∷ fs) [] above h = absurd h
unpacked-packed (f ∷ fs) (v ∷ vs) above h =
    let low : ℕ = 256 ^ width fs in
    let high : ℕ = 256 ^ f.bytes in
    let p : ℕ = packed fs vs in
    let a = mul_assoc above high low in
    let d = add-mul (above * high) v low in
    let e : above * 256 ^ (f.bytes + width fs) + (v * low + p) ≡ (above * high + v) * low + p =
    ap (λ (n : ℕ). above * n + (v * low + p)) (pow-add 256 f.bytes (width fs)) ∙ omega arith in
    let small : v < high = omega (arith, h.1, h.2) in
    let q : ((above * high + v) * low + p) / low % high ≡ v =
    ap (λ (n : ℕ). n % high) (digits_div (above * high + v) (packed_lt fs vs h.3)) ∙ digits_mod above small in
    let first : (above * 256 ^ (f.bytes + width fs) + (v * low + p)) / low % high ≡ v = ap (λ (n : ℕ). n / low % high) e ∙ q in
    let rest : unpacked fs (above * 256 ^ (f.bytes + width fs) + (v * low + p)) ≡ vs =
    ap (λ (n : ℕ). unpacked fs n) e ∙ unpacked-packed fs vs (above * high + v) h.3 in
    ap (λ (x : ℕ). x ∷ unpacked fs (above * 256 ^ (f.bytes + width fs) + (v * low + p))) first ∙ ap (λ (xs : List ℕ). v ∷ xs) rest

pub packed-unpacked : (fs : List Field) (w : ℕ) → packed fs (unpacked fs w) ≡ w % 256 ^ width fs
packed-unpacked [] w = sym (mod-one w)
packed-unpacked (f ∷ fs) w =
    ap (λ (n : ℕ). w / 256 ^ width fs % 256 ^ f.bytes * 256 ^ width fs + n) (packed-unpacked fs w)
    ∙ sym (mod-mul w (pow256 f.bytes) (pow256 (width fs)))
    ∙ ap (λ (n : ℕ). w % n) (sym (pow-add 256 f.bytes (width fs)))

pub record Whole (k : Kind) : Type 0 where
  pub number : k.number < 256
  pub seven : width k.layout ≡ 7

-- values in range are no cause for a refusal
pub fields_pass : (at : ℕ) (fs : List Field) (vs : List ℕ) → Fit fs vs → refusal (field_causes at fs vs) ≡ None
fields_pass at [] [] h = refl
fields_pass at [] (v ∷ vs) h = absurd h
fields_pass at (f ∷ fs) [] h = absurd h
fields_pass at (f ∷ fs) (v ∷ vs) h =
    cond-false (outside f v) _ _ (or_from _ _ (le-ltb v f.least h.0) (le-ltb f.most v h.1))
    ∙ fields_pass (at + f.bytes) fs vs h.3

-- a word's highest byte and the rest
word_top : (k : Kind) (vs : List ℕ) → Whole k → Fit k.layout vs → top (word_of k vs) ≡ k.number
word_top k vs whole h =
    let P : ℕ → Type 0 = λ n. packed k.layout vs < 256 ^ n in
    digits_div k.number (subst P whole.seven (packed_lt k.layout vs h))

word_values : (k : Kind) (vs : List ℕ) → Whole k → Fit k.layout vs → unpacked k.layout (word_of k vs) ≡ vs
word_values k vs whole h =
    ap (λ (n : ℕ). unpacked k.layout (k.number * 256 ^ n + packed k.layout vs)) (sym whole.seven)
    ∙ unpacked-packed k.layout vs k.number h

pub own_word_reads : (ks : List Kind) (k : Kind) (vs : List ℕ) → numbered ks k.number ≡ Some k → Whole k → Fit k.layout vs → Reads ks (word_of k vs) k vs
own_word_reads ks k vs found whole h =
    let kind = ap (λ (n : ℕ). numbered ks n) (word_top k vs whole h) ∙ found in
    let values = word_values k vs whole h in
    record {
      accepted =
          ap (λ (o : Option Kind). refusal (word_causes o (word_of k vs))) kind
          ∙ ap (λ (us : List ℕ). refusal (field_causes 1 k.layout us)) values
          ∙ fields_pass 1 k.layout vs h;
      kind = kind;
      values = values;
    }

-- a kind that is found has the number that was sought
numbered_is : (ks : List Kind) (n : ℕ) (k : Kind) → numbered ks n ≡ Some k → n ≡ k.number
numbered_is [] n k e = let z : ◌≡◌ {A = ℕ} 0 1 = cc in absurd (omega arith)
numbered_is (j ∷ ks) n k e =
    ⊎_elim
    (λ t. let same : j ≡ k = let s = cond-true _ (Some j) (numbered ks n) t in cc in eqb-true _ _ t ∙ ap (λ (x : Kind). x.number) same)
    (λ f. numbered_is ks n k (sym (cond-false _ (Some j) (numbered ks n) f) ∙ e))
    (cases_Bool (n == j.number))

pub read_word_again : (ks : List Kind) (w : ℕ) (k : Kind) (vs : List ℕ) → Whole k → Reads ks w k vs → word_of k vs ≡ w
read_word_again ks w k vs whole h =
    let size : ℕ = 256 ^ 7 in
    ap (λ (n : ℕ). n * size + packed k.layout vs) (sym (numbered_is ks (top w) k h.kind))
    ∙ ap (λ (us : List ℕ). w / size * size + packed k.layout us) (sym h.values)
    ∙ ap (λ (n : ℕ). w / size * size + n) (packed-unpacked k.layout w)
    ∙ ap (λ (n : ℕ). w / size * size + w % 256 ^ n) whole.seven
    ∙ div-add-mod' w size

pub word_eight : (k : Kind) (vs : List ℕ) → Whole k → Fit k.layout vs → word_of k vs < 2 ^ 64
word_eight k vs whole h =
    let P : ℕ → Type 0 = λ n. packed k.layout vs < 256 ^ n in
    digits_lt {c = 256 ^ 7} whole.number (subst P whole.seven (packed_lt k.layout vs h))

pub made_read : {M : Type 0} (ks : List Kind) (k : Kind) (kind : M → Kind) (fields : M → List ℕ) (w : ℕ) (vs : List ℕ) (r : Result M Fault)
    → ((m : M) → kind m ≡ k) → numbered ks (top w) ≡ Some k → unpacked k.layout w ≡ vs → Made k fields vs r → ReadAs ks kind fields w r
made_read ks k kind fields w vs (Ok m) same found values h =
    record {
      accepted =
          ap (λ (o : Option Kind). refusal (word_causes o w)) found
          ∙ ap (λ (us : List ℕ). refusal (field_causes 1 k.layout us)) values
          ∙ h.0;
      kind = found ∙ ap (λ (x : Kind). Some x) (sym (same m));
      values = ap (λ (x : Kind). unpacked x.layout w) (same m) ∙ values ∙ sym h.1;
    }
made_read ks k kind fields w vs (Err e) same found values h =
    ap (λ (o : Option Kind). refusal (word_causes o w)) found
    ∙ ap (λ (us : List ℕ). refusal (field_causes 1 k.layout us)) values
    ∙ h
