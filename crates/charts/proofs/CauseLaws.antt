-- The causes of a chart's refusal, and what they say. Assumes nothing.
--   size_refused    a wrong size is refused by 2
--   rows_asked      at a right size the rows are asked
--   row_passes      a row that names rightly is no cause
--   row_refused     a row that names wrongly is the cause with that row
--   rows_tested     the first row that names wrongly is what the test of the rows answers
--   chart_passed    where no cause is answered, the size is right and the rows are sound
--   chart_refused   an answer says that the size is wrong, or which row is the first that names wrongly
use Rattle.std.proofs.Common.{◌≡◌, ℕ, ◌<◌, ◌≤◌, true, false, not, ◌⊎◌, List, length, Some, None, Option, sym, ◌∙◌, inl, inr, ⊎_elim, arith}
use Rattle.std.specs.Prelude.{MatchOption}
use Rattle.std.proofs.lemmas.Bool.{cases_Bool, cases_lt, not-false, not_from_true, not_from_false, cond-true, cond-false}
use Rattle.std.proofs.lemmas.Bool.Decides.{not_from_Decides}
use Rattle.refusals.specs.Refusals.{Told, refusal}
use Rattle.refusals.proofs.FirstCause.{passed}
use Rattle.charts.specs.Rows.{Right, Sound, FirstWrong, right}
use Rattle.charts.specs.Causes.{Sized, WrongSize, WrongRow, sized, size_told, row_told, row_cause, row_causes, RowsTested, chart_causes}
use Rattle.charts.proofs.TurnLaws.{some_none, turn_none, none_turn, turn_at, turn_some}
use Rattle.charts.proofs.RowLaws.{past_right}
use Rattle.charts.proofs.RowTests.{decides_sized, decides_right}

-- ---- a row

module _ (n : ℕ) (rows : List ℕ) (i : ℕ) where
  pub row_passes : right n rows i ≡ true → refusal (row_cause n rows i) ≡ None
  row_passes e = cond-false (not (right n rows i)) (Some (row_told i)) None (not_from_true _ e)

  pub row_refused : right n rows i ≡ false → refusal (row_cause n rows i) ≡ Some (row_told i)
  row_refused e = cond-true (not (right n rows i)) (Some (row_told i)) None (not_from_false _ e)

  passed_right : refusal (row_cause n rows i) ≡ None → Right n rows i
  passed_right e = (decides_right rows i n).0 (not-false _ (passed (not (right n rows i)) (row_told i) None e).0)

  -- what a row's answer is
  refused_wrong : (t : Told) → refusal (row_cause n rows i) ≡ Some t → (t ≡ row_told i) × (Right n rows i → ⊥)
  refused_wrong t e = ⊎_elim
      (λ (r : right n rows i ≡ true). absurd (some_none t (refusal (row_cause n rows i)) e (row_passes r)))
      (λ r. let same : t ≡ row_told i = cc (row_refused r) in (same, not_from_Decides (right n rows i) (decides_right rows i n) r))
      (cases_Bool (right n rows i))

-- the first row that names wrongly, or none, is what the test of the rows answers
pub rows_tested : (rows : List ℕ) (r : Option ℕ)
    → MatchOption r ((k : ℕ) → 0 ≤ k → k < length rows → right (length rows) rows k ≡ true)
    (λ i. (0 ≤ i) × (i < length rows) × (right (length rows) rows i ≡ false) × ((k : ℕ) → 0 ≤ k → k < i → right (length rows) rows k ≡ true))
    → RowsTested rows r
rows_tested rows None h = none_turn (row_cause (length rows) rows) (length rows) (λ k l. row_passes (length rows) rows k (h k (omega arith) l))
rows_tested rows (Some i) h =
    turn_at (row_cause (length rows) rows) (length rows) i (row_told i) h.1
    (none_turn (row_cause (length rows) rows) i (λ k l. row_passes (length rows) rows k (h.3 k (omega arith) l)))
    (row_refused (length rows) rows i h.2)

-- ---- a chart

module _ (rows : List ℕ) (f : ℕ) where
  pub size_refused : sized (length rows) f ≡ false → refusal (chart_causes rows f) ≡ Some (size_told (length rows))
  size_refused e = cond-true (not (sized (length rows) f)) (Some (size_told (length rows))) _ (not_from_false _ e)

  pub rows_asked : sized (length rows) f ≡ true → refusal (chart_causes rows f) ≡ refusal (row_causes (length rows) rows (length rows))
  rows_asked e = cond-false (not (sized (length rows) f)) (Some (size_told (length rows))) _ (not_from_true _ e)

  pub chart_passed : refusal (chart_causes rows f) ≡ None → Sized (length rows) f × Sound (length rows) rows
  chart_passed e =
      let p = passed (not (sized (length rows) f)) (size_told (length rows)) (refusal (row_causes (length rows) rows (length rows))) e in (
        (decides_sized (length rows) f).0 (not-false _ p.0),
        λ i. ⊎_elim
            (λ (l : i < length rows). passed_right (length rows) rows i (turn_none (row_cause (length rows) rows) (length rows) i p.1 l))
            (λ l. past_right (length rows) rows i l) (cases_lt i (length rows)),
      )

  wrong_row : (t : Told) → sized (length rows) f ≡ true → refusal (row_causes (length rows) rows (length rows)) ≡ Some t → WrongRow rows f t
  wrong_row t s e =
      let r = turn_some (row_cause (length rows) rows) (length rows) t e in
      let w = refused_wrong (length rows) rows r.0 t r.2 in
      let first : FirstWrong (length rows) rows r.0 = record {
        wrong = w.1;
        before = λ j l. passed_right (length rows) rows j (r.3 j l);
      } in
      record { row = r.0; there = r.1; says = w.0; size = (decides_sized (length rows) f).0 s; first = first }

  pub chart_refused : (t : Told) → refusal (chart_causes rows f) ≡ Some t → WrongSize rows f t ⊎ WrongRow rows f t
  chart_refused t e = ⊎_elim
      (λ (s : sized (length rows) f ≡ true). inr (wrong_row t s (sym (rows_asked s) ∙ e)))
      (λ s.
      let same : t ≡ size_told (length rows) = cc (size_refused s) in
      inl (record { says = same; wrong = not_from_Decides (sized (length rows) f) (decides_sized (length rows) f) s }))
      (cases_Bool (sized (length rows) f))
