use Rattle.std.proofs.Common.{◌≡◌, ℕ, List, length, take, Some, None, sym, refl, ap, ◌∙◌, subst}
use Rattle.refusals.specs.declared.Fault.{Fault}
use Rattle.refusals.specs.Refusals.{refusal, told}
use Rattle.charts.specs.Rows.{Sound}
use Rattle.charts.specs.Causes.{chart_causes}
use Rattle.charts.proofs.CauseLaws.{rows_asked, chart_passed, chart_refused}
use Rattle.charts.proofs.Padding.{length-padded, take-padded, sound-padded}
use Rattle.charts.proofs.RowLaws.{sound_apart, sound_bounded, sound_mutual}
use Rattle.charts.proofs.chart.Chart.new.Goals as goal

pub returns-in-Some : goal.returns-in-Some
returns-in-Some c =
    let rows = c.args.rows.now in
    let e : refusal (chart_causes rows c.args.f) ≡ Some (told c.refuses-in-Some.result) =
    rows_asked rows c.args.f (sym c.if-not-is_sized.ensures) ∙ c.in-Some.ensures
    ∙ ap (λ (x : Fault). Some (told x)) (sym c.refuses-in-Some.ensures) in
    (e, chart_refused rows c.args.f (told c.refuses-in-Some.result) e)

pub invariant_of-result : goal.invariant_of-result
invariant_of-result c =
    let rows = c.args.rows.now in
    let n : ℕ = length rows in
    let p = chart_passed rows c.args.f (rows_asked rows c.args.f (sym c.if-not-is_sized.ensures) ∙ c.in_default.ensures) in
    let all : List ℕ = c.all_rows.result in
    let s : Sound n all = subst (Sound n) (sym c.all_rows.ensures) (sound-padded n rows p.1) in
    record {
      few = (p.0.0, p.0.1);
      full = ap length c.all_rows.ensures ∙ length-padded rows p.0.1;
      apart = sound_apart n all s;
      bounded = sound_bounded n all s;
      «mutual» = sound_mutual n all s;
    }

pub returns : goal.returns
returns c =
    let rows = c.args.rows.now in
    let e : refusal (chart_causes rows c.args.f) ≡ None =
    rows_asked rows c.args.f (sym c.if-not-is_sized.ensures) ∙ c.in_default.ensures in
    let p = chart_passed rows c.args.f e in
    let n : ℕ = length rows in (
      e,
      record {
        size = refl;
        whole = c.all_rows.ensures;
        front = ap (λ (l : List ℕ). take n l) c.all_rows.ensures ∙ take-padded rows n refl;
        enough = p.0;
        sound = p.1;
      },
    )
