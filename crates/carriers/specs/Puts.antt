-- Puts over the links of a chart, which the link service takes for sure. Assumes nothing.
--   puts          a put of some neighbours of a craft is accepted
--   say_puts, meddle_puts   so are those of a say and of a meddle that the carrier does not refuse
--   less_spare    the smaller of two spares falls by at most what either does
--   le_refl, le_more   what does not fall
--   as_free       shelves that did not change have as many free rows
--   taken-below   an entry that is taken waited
--   never         an answer that cannot be
use Rattle.std.proofs.Common.{◌≡◌, ℕ, ◌+◌, ◌<◌, ◌≤◌, min, true, false, List, length, get_or, Some, None, Option, sym, subst, arith}
use Rattle.std.proofs.lemmas.Bool.{ne_eqb, leb-false}
use Rattle.sets.specs.Sets.{has, only, inside}
use Rattle.sets.proofs.Members.{has_in, in_positive, inside_self, only-has, only_lacks, only_within, within_inside}
use Rattle.refusals.specs.Refusals.{refusal}
use Rattle.refusals.proofs.FirstCause.{passed}
use Rattle.frames.specs.declared.notes.Note.{Note}
use Rattle.charts.specs.declared.chart.Chart.{Chart}
use Rattle.charts.specs.Rows.{Linked}
use Rattle.charts.proofs.RowLaws.{own_lacks}
use Rattle.links.specs.Meanings as links
use Rattle.links.specs.Meanings.{chart_rows}
use Rattle.links.specs.Calls.{put_causes, take_causes}
use Rattle.links.proofs.Judged.{accepts}
use Rattle.shelves.specs.declared.kinds.Shelf.{Shelf}
use Rattle.shelves.specs.Shelves.{fewest}
use Rattle.carriers.specs.Judging.{saying_causes, meddling_causes}
use Rattle.carriers.specs.ChartRows.{row_is, rows_long}
use Rattle.carriers.specs.Accepted.{may_say, may_meddle}

pub never : {X : Type 0} {Y : Type 0} (o : Option X) (x : X) → o ≡ None → o ≡ Some x → Y
never o x p q = absurd (let z : ◌≡◌ {A = ℕ} 0 1 = cc in omega arith)

pub less_spare : (a b a' b' : ℕ) → a ≤ a' + 1 → b ≤ b' + 1 → min a b ≤ min a' b' + 1
less_spare a b a' b' p q = omega arith

pub le_refl : (a : ℕ) → a ≤ a
le_refl a = omega arith

pub le_more : {a b : ℕ} → a ≤ b → a ≤ b + 1
le_more h = omega arith

pub as_free : {at at' : List Shelf} → at' ≡ at → fewest at ≤ fewest at' + 1
as_free {at} e = subst (λ (t : List Shelf). fewest at ≤ fewest t + 1) (sym e) (le_more (le_refl (fewest at)))

pub taken-below : (w : links.Meaning) (k : ℕ) → refusal (take_causes w k) ≡ None → k < length w.waiting
taken-below w k h = leb-false (length w.waiting) k (passed _ _ _ h).0

module _ (c : Chart) (w : links.Meaning) (same : w.rows ≡ chart_rows c) where
  pub puts : (a set : ℕ) → a < c.n → 0 < set → has set a ≡ false → inside set (get_or c.rows a 0) ≡ true → 0 < w.spare
      → refusal (put_causes w.rows w.spare a set) ≡ None
  puts a set la some apart within roomy =
      subst (λ (rows : List ℕ). refusal (put_causes rows w.spare a set) ≡ None) (sym same)
      (accepts (chart_rows c) w.spare a set
      (record {
        label = omega (arith, rows_long c);
        some = ne_eqb set 0 (λ e. omega arith);
        apart = apart;
        within = subst (λ (row : ℕ). inside set row ≡ true) (row_is c a) within;
      })
      roomy)

  pub say_puts : (s a : ℕ) (x : Note) → refusal (saying_causes c.n s a x) ≡ None → s ≤ w.spare → 0 < get_or c.rows a 0
      → refusal (put_causes w.rows w.spare a (get_or c.rows a 0)) ≡ None
  say_puts s a x ok room some =
      let may = may_say c.n s a x ok in
      puts a (get_or c.rows a 0) may.label some (own_lacks c.rows c.apart a) (inside_self (get_or c.rows a 0)) (omega (arith, may.room))

  pub meddle_puts : (f astray s i to : ℕ) → refusal (meddling_causes c.n f (get_or c.rows i 0) astray s i to) ≡ None → s ≤ w.spare
      → refusal (put_causes w.rows w.spare i (only to)) ≡ None
  meddle_puts f astray s i to ok room =
      let row = get_or c.rows i 0 in
      let may = may_meddle c.n f row astray s i to ok in
      let link = has_in row to may.linked in
      puts i (only to) may.meddler (in_positive (only to) to (has_in (only to) to (only-has to)))
      (only_lacks to i (λ e. c.apart i (subst (Linked c.rows i) e link)))
      (within_inside (only to) row (only_within to row link)) (omega (arith, may.room))
