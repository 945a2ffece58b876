-- The calls of the direct carrier, by its chart and its parts. Assumes nothing.
--   lawful        what fits keeps the two laws
--   hears_crooked, hears_old, hears_new
--                 what an entry tells: nothing if it is not straight or was heard, else its note
--   told_at       what the entry taken tells is what was defined for its index
--   say_step, drop_step, hear_step, meddle_step
--                 what each call leaves
--   say_puts      the link service takes what a say that the carrier does not refuse puts: no row is empty
--   say_on, meddle_on   a say and a meddle whole, refused ones included
use Rattle.std.specs.Prelude.{◌≡◌, ℕ, ◌+◌, ◌<◌, ◌≤◌, Bool, true, false, List, ◌++◌, length, Some, None, Ok, Err, Option, Result, slice_index, slice_index_or, refl}
use Rattle.std.proofs.Common.{sym, ap, subst, ◌∙◌, ⊎_elim, arith}
use Rattle.std.specs.List.{remove, ContainsAt as Has}
use Rattle.std.proofs.lemmas.List.Edits.{length-remove}
use Rattle.std.proofs.lemmas.List.{length-append, get_or_default}
use Rattle.std.proofs.lemmas.Bool.{cases_eq, cases_Bool, cond-true, cond-false, both_ways}
use Rattle.sets.specs.Sets.{labels, In, adding}
use Rattle.sets.proofs.Each.{each_few}
use Rattle.sets.proofs.Members.{bit_lacks, has_in}
use Rattle.refusals.specs.declared.Fault.{Fault}
use Rattle.refusals.specs.Refusals.{Told, refusal, told}
use Rattle.frames.specs.declared.notes.Note.{Note}
use Rattle.frames.specs.declared.notes.Frame.{Frame}
use Rattle.cuts.specs.declared.complete.CompleteChart.{CompleteChart}
use Rattle.links.specs.declared.entries.Entry.{Entry}
use Rattle.links.specs.Meanings as links
use Rattle.links.specs.Meanings.{entry_to, sent}
use Rattle.links.specs.Calls.{Taken, put_causes}
use Rattle.shelves.specs.declared.kinds.Shelf.{Shelf}
use Rattle.charts.proofs.RowLaws.{own_lacks}
use Rattle.shelves.specs.Shelves.{fewest, HeldAt, heard_on}
use Rattle.agreement.specs.Meanings.{Lawful}
use Rattle.agreement.specs.Carrying.{Said, Quiet, Hears, Meddled}
use Rattle.carriers.specs.declared.heard.Heard.{Heard}
use Rattle.carriers.specs.Judging.{saying_causes, meddling_causes}
use Rattle.carriers.specs.Calls.{Say, Meddle}
use Rattle.carriers.specs.Parts.{Parts, spare_of, own_frame, no_entry, Spoken, SaysOn, MeddledTo, MeddlesOn}
use Rattle.carriers.specs.Directs.{rows_of_chart, meaning_of, straight, heard_of, hearing, Flows, Fitting}
use Rattle.carriers.specs.ChartRows.{row_is}
use Rattle.carriers.specs.Again.{adds_none}
use Rattle.carriers.specs.Puts.{never, less_spare, le_refl, le_more, as_free, taken-below, say_puts as row_put, meddle_puts}
use Rattle.shelves.proofs.Hearing.{heard-held}
use Rattle.carriers.specs.Meshes.{meshed, neighbour}
use Rattle.carriers.specs.Accepted.{may_say, may_meddle, judged_meddle}
use Rattle.carriers.specs.Straight.{is_straight_lem, flows_say, flows_drop, flows_hear, flows_meddle}

nothing_has : {X : Type 0} (xs : List X) (x : X) → length xs ≡ 0 → Has xs x → ⊥
nothing_has xs x none (k, l, at) = omega arith

-- what an entry tells
module _ (n : ℕ) (h : ℕ → ℕ → Note → Bool) (e : Entry) where
  pub hears_crooked : straight n e ≡ false → hearing n h e ≡ None
  hears_crooked p = cond-false (straight n e) _ _ p

  pub hears_old : h e.to e.from e.frame.note ≡ true → hearing n h e ≡ None
  hears_old q = ⊎_elim (λ (p : straight n e ≡ true). cond-true (straight n e) _ _ p ∙ cond-true (h e.to e.from e.frame.note) _ _ q) hears_crooked (cases_Bool (straight n e))

  pub hears_new : straight n e ≡ true → h e.to e.from e.frame.note ≡ false → hearing n h e ≡ Some (heard_of e)
  hears_new p q = cond-true (straight n e) _ _ p ∙ cond-false (h e.to e.from e.frame.note) _ _ q

pub told_at : (n : ℕ) (h : ℕ → ℕ → Note → Bool) (w w' : links.Meaning) (k : ℕ) (e : Entry) (o : Option Heard) → Taken w k e w'
    → hearing n h e ≡ o → o ≡ hearing n h (slice_index_or w.waiting k no_entry)
told_at n h w w' k e o t p = sym p ∙ ap (hearing n h) (sym t.entry ∙ get_or_default w.waiting k e no_entry (taken-below w k t.accepted))

module _ (c : CompleteChart) (p : Parts) (s : Fitting c p) where
  abbrev n : ℕ
  n = c.chart.n

  abbrev ws : List Entry
  ws = p.links.waiting

  pub lawful : Lawful (meaning_of c p)
  lawful = record {
    limits = record { least = c.chart.few.0; most = c.chart.few.1; few = c.enough };
    nothing_invented = λ l a t hl ha h. s.flows.said l a t (bit_lacks p.astray a ha.loyal) h;
    nothing_lost = λ none l a t hl ha h. ⊎_elim
        (λ (q : l ≡ a). subst (λ (i : ℕ). heard_on p.shelves i a t ≡ true) (sym q) h)
        (λ ne. ⊎_elim (λ (y : heard_on p.shelves l a t ≡ true). y) (λ w. absurd (nothing_has _ _ none w)) (s.flows.due l a t hl.below ha.below ne h))
        (cases_eq l a);
  }

  -- ---- say

  pub say_step : (p' : Parts) (a : ℕ) (x : Note) → refusal (saying_causes n (spare_of p) a x) ≡ None → heard_on p.shelves a a x ≡ false
      → Spoken c.chart p a x p' → Said 7 (meaning_of c p) a x (meaning_of c p') × Fitting c p'
  say_step p' a x ok new spoken =
      let may = may_say n (spare_of p) a x ok in
      let row = slice_index c.chart.rows a in
      let put = spoken.put in
      let added = heard-held p.shelves a a x p'.shelves spoken.held in
      let few : length (sent a row (own_frame a x)) < labels =
      each_few (entry_to a (own_frame a x)) row a labels (own_lacks c.chart.rows c.chart.apart a) (omega (arith, may.label, c.chart.few)) in (
        record {
          fixed = record { n = refl; f = refl; chart = refl };
          heard = record { at = added };
          again = λ e. absurd (both_ways _ new e);
          astray = spoken.astray;
          toil = omega (arith, ap length put.waiting, length-append ws (sent a row (own_frame a x)));
          spare = less_spare _ _ _ _ put.spare spoken.held.free;
        },
        record {
          rows = put.kept.rows ∙ s.rows;
          flows = subst (λ (i : ℕ). Flows n i (heard_on p'.shelves) p'.links.waiting) (sym spoken.astray)
              (subst (λ (v : List Entry). Flows n p.astray (heard_on p'.shelves) v) (sym (put.waiting ∙ ap (λ (r : ℕ). ws ++ sent a r (own_frame a x)) (row_is c.chart a)))
              (flows_say n p.astray (meaning_of c p) (meaning_of c p') ws (rows_of_chart c) a x c.chart.few.1 (meshed c) may.label may.sound (record { at = added }) s.flows));
        },
      )

  pub say_puts : (a : ℕ) (x : Note) → refusal (saying_causes n (spare_of p) a x) ≡ None
      → (set : ℕ) → set ≡ slice_index (rows_of_chart c) a → refusal (put_causes p.links.rows p.links.spare a set) ≡ None
  say_puts a x ok set q =
      let may = may_say n (spare_of p) a x ok in
      let some = subst (λ (i : ℕ). 0 < i) (sym (row_is c.chart a)) (neighbour (rows_of_chart c) n (meshed c) c.chart.few.0 a may.label) in
      subst (λ (i : ℕ). refusal (put_causes p.links.rows p.links.spare a i) ≡ None) (row_is c.chart a ∙ sym q)
      (row_put c.chart p.links s.rows (spare_of p) a x ok (omega arith) some)

  pub say_on : (a : ℕ) (x : Note) (r : Result Unit Fault) (p' : Parts) → SaysOn c.chart p a x r p' → Say 7 (meaning_of c p) a x r (meaning_of c p') × Fitting c p'
  say_on a x (Ok _) p' (ok, again, spoken) = ⊎_elim
      (λ (old : heard_on p.shelves a a x ≡ true). subst (λ (q : Parts). Say 7 (meaning_of c p) a x (Ok _) (meaning_of c q) × Fitting c q) (sym (again old)) (
        (
          ok,
          record {
            fixed = record { n = refl; f = refl; chart = refl };
            heard = adds_none (meaning_of c p) a a x old;
            again = λ e. refl;
            astray = refl;
            toil = omega arith;
            spare = omega arith;
          },
        ),
        s,
      ))
      (λ new. let r = say_step p' a x ok new (spoken new) in ((ok, r.0), r.1))
      (cases_Bool (heard_on p.shelves a a x))
  say_on a x (Err e) p' (same, why) = ⊎_elim
      (λ (h : refusal (saying_causes n (spare_of p) a x) ≡ Some (told e)).
      ((h, ap (meaning_of c) same), subst (Fitting c) (sym same) s))
      (λ h. never _ _ (say_puts a x h.0 _ (row_is c.chart a)) h.1)
      why

  -- ---- carry

  module _ (w' : links.Meaning) (k : ℕ) (e : Entry) (take : Taken p.links k e w') where
    below : k < length ws
    below = taken-below p.links k take.accepted

    less-toil : length w'.waiting + 1 ≤ length ws
    less-toil = omega (arith, ap length take.waiting, length-remove ws k below)

    abbrev after : List Shelf → Parts
    after at = record { links = w'; shelves = at; astray = p.astray }

    carried : (at : List Shelf) → Flows n p.astray (heard_on at) (remove ws k) → Fitting c (after at)
    carried at flows = record {
      rows = take.kept.rows ∙ s.rows;
      flows = subst (λ (v : List Entry). Flows n p.astray (heard_on at) v) (sym take.waiting) flows;
    }

    pub drop_step : (straight n e ≡ true → heard_on p.shelves e.to e.from e.frame.note ≡ true)
        → Quiet (meaning_of c p) (meaning_of c (after p.shelves)) × Fitting c (after p.shelves)
    drop_step old = (
      record {
        fixed = record { n = refl; f = refl; chart = refl };
        heard = record { at = λ l a t. refl };
        astray = refl;
        toil = less-toil;
        spare = less_spare _ _ _ _ (le_more take.spare) (le_more (le_refl (fewest p.shelves)));
      },
      carried p.shelves (flows_drop n p.astray (meaning_of c p) ws k e below take.entry s.flows old),
    )

    pub hear_step : (at : List Shelf) → straight n e ≡ true → heard_on p.shelves e.to e.from e.frame.note ≡ false
        → HeldAt p.shelves e.to e.from e.frame.note 0 true at
        → Hears (meaning_of c p) e.to e.from e.frame.note (meaning_of c (after at)) × Fitting c (after at)
    hear_step at str new held =
        let st = is_straight_lem n e str in
        let added = heard-held p.shelves e.to e.from e.frame.note at held in (
          record {
            fixed = record { n = refl; f = refl; chart = refl };
            new = new;
            listener = st.to;
            author = st.from;
            apart = st.apart;
            sound = st.sound;
            heard = record { at = added };
            astray = refl;
            toil = less-toil;
            spare = less_spare _ _ _ _ (le_more take.spare) held.free;
          },
          carried at (flows_hear n p.astray (meaning_of c p) ws k e below take.entry s.flows (meaning_of c (after at)) st (record { at = added })),
        )

  -- ---- meddle

  pub meddle_step : (i to : ℕ) (t : Frame) (p' : Parts) → refusal (meddling_causes n c.f (slice_index c.chart.rows i) p.astray (spare_of p) i to) ≡ None
      → MeddledTo p i to t p' → Meddled (meaning_of c p) i (meaning_of c p') × Fitting c p'
  meddle_step i to t p' ok done =
      let row = slice_index_or c.chart.rows i 0 in
      let may = may_meddle n c.f row p.astray (spare_of p) i to ok in
      let apart = λ (e : i ≡ to). c.chart.apart i (subst (λ (j : ℕ). In j row) (sym e) (has_in row to may.linked)) in
      let put = done.put in (
        record {
          fixed = record { n = refl; f = refl; chart = refl };
          heard = record { at = λ l a x. ap (λ (at : List Shelf). heard_on at l a x) done.shelves };
          astray = done.astray;
          spare = less_spare _ _ _ _ put.spare (as_free done.shelves);
        },
        record {
          rows = put.kept.rows ∙ s.rows;
          flows = subst (λ (at : List Shelf). Flows n p'.astray (heard_on at) p'.links.waiting) (sym done.shelves)
              (subst (λ (j : ℕ). Flows n j (heard_on p.shelves) p'.links.waiting) (sym done.astray)
              (subst (λ (v : List Entry). Flows n (adding i p.astray) (heard_on p.shelves) v) (sym put.waiting)
              (flows_meddle n p.astray (heard_on p.shelves) ws i to t may.meddler may.other apart s.flows)));
        },
      )

  -- a row of the chart is a row of its meaning
  as_meant : (i to : ℕ) {o : Option Told} → refusal (meddling_causes n c.f (slice_index c.chart.rows i) p.astray (spare_of p) i to) ≡ o
      → refusal (meddling_causes n c.f (slice_index (rows_of_chart c) i) p.astray (spare_of p) i to) ≡ o
  as_meant i to h = judged_meddle n c.f p.astray i to (row_is c.chart i) refl h

  pub meddle_on : (i to : ℕ) (t : Frame) (r : Result Unit Fault) (p' : Parts) → MeddlesOn c.chart c.f p i to t r p'
      → Meddle (meaning_of c p) i to r (meaning_of c p') × Fitting c p'
  meddle_on i to t (Ok _) p' (ok, done) = let r = meddle_step i to t p' ok done in ((as_meant i to ok, r.0), r.1)
  meddle_on i to t (Err e) p' (same, why) = ⊎_elim
      (λ (h : refusal (meddling_causes n c.f (slice_index c.chart.rows i) p.astray (spare_of p) i to) ≡ Some (told e)).
      ((as_meant i to h, ap (meaning_of c) same), subst (Fitting c) (sym same) s))
      (λ h. never _ _ (meddle_puts c.chart p.links s.rows c.f p.astray (spare_of p) i to h.0 (omega arith)) h.1)
      why
