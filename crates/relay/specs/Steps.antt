-- The calls of the relay, by its chart and its parts. Assumes nothing.
--   lawful       a state that calls led to keeps the two laws
--   say_on, meddle_on   a say and a meddle whole, refused ones included
--   fits_on      a carry leads on to such a state
--   carry_quiet, carry_hears   what a carry leaves that lets nobody hear, and one that lets its receiver hear
use Rattle.std.specs.Prelude.{◌≡◌, ℕ, ◌+◌, ◌≤◌, Bool, true, false, ◌&&◌, ◌||◌, List, [], ◌∷◌, ◌++◌, length, Some, None, Ok, Err, filter, Option, Result, ◌==◌, slice_index, slice_index_or, refl}
use Rattle.std.proofs.Common.{sym, ap, subst, ◌∙◌, ⊎_elim, arith}
use Rattle.std.proofs.lemmas.List.{nil_from_length}
use Rattle.std.proofs.lemmas.Bool.{cases_Bool, cases_eq, both_ways, eq-eqb, ne_eqb}
use Rattle.sets.specs.Sets.{labels, count}
use Rattle.sets.proofs.Counts.{adding_most}
use Rattle.sets.proofs.Members.{has_in}
use Rattle.sets.proofs.Removed.{each-only}
use Rattle.refusals.specs.declared.Fault.{Fault}
use Rattle.refusals.specs.Refusals.{Told, refusal, told}
use Rattle.frames.specs.declared.notes.Note.{Note}
use Rattle.frames.specs.declared.notes.Frame.{Frame}
use Rattle.cuts.specs.declared.passed.PassedChart.{PassedChart}
use Rattle.links.specs.declared.entries.Entry.{Entry}
use Rattle.links.specs.Meanings.{chart_rows, entry_to}
use Rattle.shelves.specs.declared.kinds.Row.{Row}
use Rattle.shelves.specs.declared.kinds.Shelf.{Shelf}
use Rattle.shelves.specs.Rows.{row_of, keyed, stays}
use Rattle.shelves.specs.Shelves.{rows_at, heard_on}
use Rattle.shelves.proofs.Hearing.{heard-held}
use Rattle.pathsets.specs.Keys.{same_key, sets_of}
use Rattle.pathsets.specs.Outcomes.{is_heard}
use Rattle.pathsets.proofs.RowSets.{heard_sets, same_key_sym}
use Rattle.relaying.specs.States.{heard, Says, Meddles, stepped_at}
use Rattle.relaying.specs.Invariants.{Kept}
use Rattle.relaying.specs.Laws.{said, carried, meddled}
use Rattle.relaying.specs.Laws as laws
use Rattle.relaying.proofs.KeptSay.{unsaid_none}
use Rattle.relaying.proofs.Laws.{kept_reached, relay_laws_lem}
use Rattle.relaying.proofs.Answers.{carry_answers}
use Rattle.relaying.proofs.Toil.{toil_falls, toil_rises}
use Rattle.agreement.specs.Meanings.{Lawful}
use Rattle.agreement.specs.Carrying.{Adds, Silent, Said, Quiet, Hears, Meddled}
use Rattle.carriers.specs.declared.heard.Heard.{Heard}
use Rattle.carriers.specs.Calls.{Say, Meddle}
use Rattle.carriers.specs.Judging.{saying_causes, meddling_causes}
use Rattle.carriers.specs.Parts.{Parts, spare_of, Spoken, SaysOn, MeddledTo, MeddlesOn}
use Rattle.carriers.specs.Accepted.{may_say, may_meddle, judged_meddle}
use Rattle.carriers.specs.ChartRows.{row_is}
use Rattle.carriers.specs.Again.{adds_none}
use Rattle.carriers.specs.Puts.{never, less_spare, as_free, say_puts, meddle_puts}
use Rattle.relay.specs.Relays.{setting, state, meaning_of, Fitting, CarriedOn}
use Rattle.relay.specs.Charts.{charted, neighbour}

le_plus : (a b : ℕ) → a ≤ a + b
le_plus a b = omega arith

spare_le : (p : Parts) → spare_of p ≤ p.links.spare
spare_le p = omega arith

-- ---- rows

-- where nothing is held for a key, no row of it goes
kept_all : (a : ℕ) (x : Note) (u : ℕ) (rs : List Row) → sets_of a x rs ≡ [] → filter (stays a x u) rs ≡ rs
kept_all a x u [] h = refl
kept_all a x u (r ∷ rs) h = ⊎_elim
    (λ (e : keyed a x r ≡ true). absurd (let z : r.held ∷ sets_of a x rs ≡ [] = rw e at h in omega (arith, ap length z)))
    (λ (e : keyed a x r ≡ false). rw e (ap (λ (t : List Row). r ∷ t) (kept_all a x u rs (rw e at h))))
    (cases_Bool (keyed a x r))

-- ---- what is heard, in the theory and on the shelves

heard_is : (p : Parts) (l a : ℕ) (x : Note) → heard_on p.shelves l a x ≡ heard (state p) l a x
heard_is p l a x = heard_sets a x (rows_at p.shelves l)

eqb_sym : (i j : ℕ) → (i == j) ≡ (j == i)
eqb_sym i j = ⊎_elim (λ (e : i ≡ j). eq-eqb i j e ∙ sym (eq-eqb j i (sym e))) (λ ne. ne_eqb i j ne ∙ sym (ne_eqb j i (λ e. ne (sym e)))) (cases_eq i j)

as_adds : (c : PassedChart) (p p' : Parts) (l a : ℕ) (x : Note) → laws.Adds (state p) l a x (state p') → Adds (meaning_of c p) l a x (meaning_of c p')
as_adds c p p' l a x h = record {
  at = λ i b y.
      heard_is p' i b y ∙ h i b y ∙ ap (λ (t : Bool). t || (i == l && same_key b y a x)) (sym (heard_is p i b y))
      ∙ ap (λ (t : Bool). heard_on p.shelves i b y || (t && same_key b y a x)) (eqb_sym i l)
      ∙ ap (λ (t : Bool). heard_on p.shelves i b y || (l == i && t)) (same_key_sym b y a x);
}

as_silent : (c : PassedChart) (p p' : Parts) → laws.AddsNothing (state p) (state p') → Silent (meaning_of c p) (meaning_of c p')
as_silent c p p' h = record { at = λ i b y. heard_is p' i b y ∙ h i b y ∙ sym (heard_is p i b y) }

module _ (c : PassedChart) (p : Parts) (s : Fitting c p) where
  abbrev n : ℕ
  n = c.chart.n

  kept : Kept (setting c) (state p)
  kept = kept_reached (setting c) (state p) (charted c) s.reached

  pub lawful : Lawful (meaning_of c p)
  lawful =
      let both = relay_laws_lem (setting c) (state p) (charted c) c.passed s.reached in
      record {
        limits = record { least = c.chart.few.0; most = c.chart.few.1; few = c.enough };
        nothing_invented = λ l a t hl ha h. heard_is p a a t ∙ both.0 l a t hl.loyal ha.loyal (sym (heard_is p l a t) ∙ h);
        nothing_lost = λ none l a t hl ha h. heard_is p l a t ∙ both.1 (nil_from_length p.links.waiting none) l a t hl.below hl.loyal ha.loyal (sym (heard_is p a a t) ∙ h);
      }

  -- ---- say

  says : (p' : Parts) (a : ℕ) (x : Note) → refusal (saying_causes n (spare_of p) a x) ≡ None → heard_on p.shelves a a x ≡ false
      → Spoken c.chart p a x p' → Says (setting c) (state p) a x (state p')
  says p' a x ok new spoken =
      let may = may_say n (spare_of p) a x ok in
      let unheard = sym (heard_is p a a x) ∙ new in
      record {
        author = may.label;
        sound = may.sound;
        new = unheard;
        own = spoken.held.here.1 ∙ ap (λ (t : List Row). t ++ row_of a x 0 ∷ []) (kept_all a x 0 (rows_at p.shelves a) (unsaid_none (setting c) (state p) a x kept unheard));
        other = spoken.held.others;
        waiting = spoken.put.waiting;
        astray = spoken.astray;
      }

  pub say_step : (p' : Parts) (a : ℕ) (x : Note) → refusal (saying_causes n (spare_of p) a x) ≡ None → heard_on p.shelves a a x ≡ false
      → Spoken c.chart p a x p' → Said 14343 (meaning_of c p) a x (meaning_of c p') × Fitting c p'
  say_step p' a x ok new spoken =
      let sy = says p' a x ok new spoken in (
        record {
          fixed = record { n = refl; f = refl; chart = refl };
          heard = record { at = heard-held p.shelves a a x p'.shelves spoken.held };
          again = λ e. absurd (both_ways _ new e);
          astray = spoken.astray;
          toil = toil_rises (setting c) (state p) (state p') a x (charted c) s.reached sy;
          spare = less_spare _ _ _ _ spoken.put.spare spoken.held.free;
        },
        record { rows = spoken.put.kept.rows ∙ s.rows; reached = said s.reached sy },
      )

  pub say_on : (a : ℕ) (x : Note) (r : Result Unit Fault) (p' : Parts) → SaysOn c.chart p a x r p' → Say 14343 (meaning_of c p) a x r (meaning_of c p') × Fitting c p'
  say_on a x (Ok _) p' (ok, again, spoken) = ⊎_elim
      (λ (old : heard_on p.shelves a a x ≡ true). subst (λ (q : Parts). Say 14343 (meaning_of c p) a x (Ok _) (meaning_of c q) × Fitting c q) (sym (again old)) (
        (
          ok,
          record {
            fixed = record { n = refl; f = refl; chart = refl };
            heard = adds_none (meaning_of c p) a a x old;
            again = λ e. refl;
            astray = refl;
            toil = le_plus (meaning_of c p).toil 14343;
            spare = le_plus (spare_of p) 1;
          },
        ),
        s,
      ))
      (λ new. let r = say_step p' a x ok new (spoken new) in ((ok, r.0), r.1))
      (cases_Bool (heard_on p.shelves a a x))
  say_on a x (Err e) p' (same, why) = ⊎_elim
      (λ (h : refusal (saying_causes n (spare_of p) a x) ≡ Some (told e)).
      ((h, ap (meaning_of c) same), subst (Fitting c) (sym same) s))
      (λ h. never _ _ (say_puts c.chart p.links s.rows (spare_of p) a x h.0 (spare_le p) (neighbour c a (may_say n (spare_of p) a x h.0).label)) h.1)
      why

  -- ---- carry

  pub fits_on : (k : ℕ) (e : Entry) (t : Option Heard) (p' : Parts) → CarriedOn c p k e t p' → Fitting c p'
  fits_on k e t p' co = record { rows = co.kept.rows ∙ s.rows; reached = carried s.reached co.carries }

  module _ (k : ℕ) (e : Entry) (t : Option Heard) (p' : Parts) (co : CarriedOn c p k e t p') where
    answers : laws.Answers (setting c) (state p) e (state p')
    answers = carry_answers (setting c) (state p) (state p') k e (charted c) s.reached co.carries

    falls : (meaning_of c p').toil + 1 ≤ (meaning_of c p).toil
    falls = toil_falls (setting c) (state p) (state p') k e (charted c) s.reached co.carries

    pub carry_quiet : is_heard (stepped_at (setting c) (state p) e).out ≡ false → Quiet (meaning_of c p) (meaning_of c p')
    carry_quiet h = record {
      fixed = record { n = refl; f = refl; chart = refl };
      heard = as_silent c p p' (answers.nothing h);
      astray = co.carries.astray;
      toil = falls;
      spare = co.spare;
    }

    pub carry_hears : is_heard (stepped_at (setting c) (state p) e).out ≡ true
        → Hears (meaning_of c p) e.to e.frame.author e.frame.note (meaning_of c p')
    carry_hears h = record {
      fixed = record { n = refl; f = refl; chart = refl };
      new = heard_is p e.to e.frame.author e.frame.note ∙ answers.new h;
      listener = (answers.labels h).0;
      author = (answers.labels h).1;
      apart = answers.different h;
      sound = answers.sound h;
      heard = as_adds c p p' e.to e.frame.author e.frame.note (answers.adds h);
      astray = co.carries.astray;
      toil = falls;
      spare = co.spare;
    }

  -- ---- meddle

  meddles : (i to : ℕ) (t : Frame) (p' : Parts) → refusal (meddling_causes n c.f (slice_index c.chart.rows i) p.astray (spare_of p) i to) ≡ None
      → MeddledTo p i to t p' → Meddles (setting c) (state p) i to t (state p')
  meddles i to t p' ok done =
      let row = slice_index_or c.chart.rows i 0 in
      let may = may_meddle n c.f row p.astray (spare_of p) i to ok in
      record {
        link = has_in row to may.linked;
        few = subst (λ (m : ℕ). count m ≤ c.f) (sym done.astray) (adding_most i p.astray c.f kept.few_astray may.few);
        shelf = λ q. ap (λ (at : List Shelf). rows_at at q) done.shelves;
        waiting = done.put.waiting ∙ ap (λ (l : List Entry). p.links.waiting ++ l) (each-only (entry_to i t) to labels (omega (arith, may.other, c.chart.few)));
        astray = done.astray;
      }

  pub meddle_step : (i to : ℕ) (t : Frame) (p' : Parts) → refusal (meddling_causes n c.f (slice_index c.chart.rows i) p.astray (spare_of p) i to) ≡ None
      → MeddledTo p i to t p' → Meddled (meaning_of c p) i (meaning_of c p') × Fitting c p'
  meddle_step i to t p' ok done = (
    record {
      fixed = record { n = refl; f = refl; chart = refl };
      heard = record { at = λ l a x. ap (λ (at : List Shelf). heard_on at l a x) done.shelves };
      astray = done.astray;
      spare = less_spare _ _ _ _ done.put.spare (as_free done.shelves);
    },
    record { rows = done.put.kept.rows ∙ s.rows; reached = meddled s.reached (meddles i to t p' ok done) },
  )

  -- a row of the chart is a row of its meaning
  as_meant : (i to : ℕ) {o : Option Told} → refusal (meddling_causes n c.f (slice_index c.chart.rows i) p.astray (spare_of p) i to) ≡ o
      → refusal (meddling_causes n c.f (slice_index (chart_rows c.chart) i) p.astray (spare_of p) i to) ≡ o
  as_meant i to h = judged_meddle n c.f p.astray i to (row_is c.chart i) refl h

  pub meddle_on : (i to : ℕ) (t : Frame) (r : Result Unit Fault) (p' : Parts) → MeddlesOn c.chart c.f p i to t r p'
      → Meddle (meaning_of c p) i to r (meaning_of c p') × Fitting c p'
  meddle_on i to t (Ok _) p' (ok, done) = let r = meddle_step i to t p' ok done in ((as_meant i to ok, r.0), r.1)
  meddle_on i to t (Err e) p' (same, why) = ⊎_elim
      (λ (h : refusal (meddling_causes n c.f (slice_index c.chart.rows i) p.astray (spare_of p) i to) ≡ Some (told e)).
      ((as_meant i to h, ap (meaning_of c) same), subst (Fitting c) (sym same) s))
      (λ h. never _ _ (meddle_puts c.chart p.links s.rows c.f p.astray (spare_of p) i to h.0 (spare_le p)) h.1)
      why
