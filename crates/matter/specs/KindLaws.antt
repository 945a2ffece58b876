-- The laws of observations and keep-outs, over their values. Assumes nothing.
--   observation_whole, keep_out_whole   a number of one byte, seven bytes of fields
--   observation_fit, keep_out_fit       a value's fields are in range
--   observation_apart, keep_out_apart   a value is its fields
--   two_kinds                           the two kinds have two numbers
use Rattle.std.specs.Prelude.{◌≡◌, ◌≤◌, refl}
use mathlib.Core.HLevel.{is_prop→PathP}
use Rattle.std.proofs.Common.{ap, arith, lit<}
use denote.Struct.Props.{props}
use Rattle.matter.specs.declared.kinds.Observation.{Observation}
use Rattle.matter.specs.declared.kinds.KeepOut.{KeepOut}
use Rattle.matter.specs.Layouts.{Kind}
use Rattle.matter.specs.Kinds.{observation, observed, keep_out, kept_out}
use Rattle.matter.specs.LayoutsLemmas.{Fit, Whole}

pub two_kinds : observation ≡ keep_out → ⊥
two_kinds e = let z = ap (λ (k : Kind). k.number) e in omega arith

pub observation_whole : Whole observation
observation_whole = record { number = lit< tt; seven = refl }

pub observation_fit : (m : Observation) → Fit observation.layout (observed m)
observation_fit m =
    (m.named.0, m.named.1, lit< tt, (omega arith, m.today, lit< tt, (m.lasts.0, m.lasts.1, lit< tt, (omega arith, m.known, lit< tt, tt))))

-- a range has one proof
pub observation_apart : (m n : Observation) → observed m ≡ observed n → m ≡ n
observation_apart m n e =
    let p : m.target ≡ n.target = cc in
    let q : m.start ≡ n.start = cc in
    let r : m.length ≡ n.length = cc in
    let s : m.mode ≡ n.mode = cc in
    λ i. record {
      target = p i;
      start = q i;
      length = r i;
      mode = s i;
      named = is_prop→PathP (λ j. (1 ≤ p j) × (p j ≤ 65535)) (λ j. hlevel props) m.named n.named i;
      today = is_prop→PathP (λ j. q j ≤ 86399) (λ j. hlevel props) m.today n.today i;
      lasts = is_prop→PathP (λ j. (1 ≤ r j) × (r j ≤ 255)) (λ j. hlevel props) m.lasts n.lasts i;
      known = is_prop→PathP (λ j. s j ≤ 3) (λ j. hlevel props) m.known n.known i;
    }

pub keep_out_whole : Whole keep_out
keep_out_whole = record { number = lit< tt; seven = refl }

pub keep_out_fit : (m : KeepOut) → Fit keep_out.layout (kept_out m)
keep_out_fit m =
    (m.named.0, m.named.1, lit< tt, (omega arith, m.today, lit< tt, (m.lasts.0, m.lasts.1, lit< tt, tt)))

pub keep_out_apart : (m n : KeepOut) → kept_out m ≡ kept_out n → m ≡ n
keep_out_apart m n e =
    let p : m.zone ≡ n.zone = cc in
    let q : m.first ≡ n.first = cc in
    let r : m.minutes ≡ n.minutes = cc in
    λ i. record {
      zone = p i;
      first = q i;
      minutes = r i;
      named = is_prop→PathP (λ j. (1 ≤ p j) × (p j ≤ 65535)) (λ j. hlevel props) m.named n.named i;
      today = is_prop→PathP (λ j. q j ≤ 86399) (λ j. hlevel props) m.today n.today i;
      lasts = is_prop→PathP (λ j. (1 ≤ r j) × (r j ≤ 1440)) (λ j. hlevel props) m.lasts n.lasts i;
    }
