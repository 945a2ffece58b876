-- A carry of the relay, by what the code's parts of it ensure. Assumes nothing.
--   carries       together they are the carry that the theory speaks of
--   carried_on    and all that is said of an accepted carry
--   stopped       where the put is refused
--   put_taken     where the link service has the relay's chart, the put is not refused
--   told_is       what is told by the entry taken is what was defined for its index
use Rattle.std.proofs.Common.{◌≡◌, ℕ, ◌+◌, ◌<◌, ◌≤◌, Bool, true, false, cond, List, ◌++◌, length, get_or, Some, None, Ok, Err, Option, sym, refl, ap, ◌∙◌, subst, ⊎_elim, arith}
use Rattle.std.specs.List.{remove}
use Rattle.std.proofs.lemmas.List.{append-nil, get_or_default}
use Rattle.std.proofs.lemmas.Bool.{cases_eq}
use Rattle.sets.specs.Sets.{labels, In}
use Rattle.sets.proofs.Members.{bit_lacks, not_in, some_member, within_by, within_inside}
use Rattle.sets.proofs.Removed.{each_empty}
use Rattle.refusals.specs.declared.Fault.{Fault}
use Rattle.refusals.specs.Refusals.{refusal}
use Rattle.cuts.specs.declared.passed.PassedChart.{PassedChart}
use Rattle.links.specs.declared.entries.Entry.{Entry}
use Rattle.links.specs.Meanings as links
use Rattle.links.specs.Meanings.{chart_rows, entry_to, sent}
use Rattle.links.specs.Calls.{Kept, Taken, put_causes}
use Rattle.shelves.specs.declared.kinds.Shelf.{Shelf}
use Rattle.shelves.specs.Shelves.{rows_at, fewest}
use Rattle.pathsets.specs.declared.listener.Listener.{Listener}
use Rattle.pathsets.specs.declared.outcome.Outcome.{Outcome}
use Rattle.pathsets.specs.Outcomes.{is_heard, set_of, told_by}
use Rattle.pathsets.specs.Steps.{Stepped, step}
use Rattle.pathsets.specs.Shelving.{stepped, TakesAt}
use Rattle.pathsets.proofs.ShelfSteps.{stepped_free, told-linked}
use Rattle.relaying.specs.States.{Carries, stepped_at, listener, frame_of}
use Rattle.carriers.specs.declared.heard.Heard.{Heard}
use Rattle.carriers.specs.Parts.{no_entry, Parts, spare_of, carry_refusal}
use Rattle.carriers.specs.Puts.{puts, less_spare, taken-below}
use Rattle.relay.specs.Passing.{PassesOn, passed_frame}
use Rattle.relay.specs.Relays.{setting, state, telling, heard_by, CarriedOn, Stopped}

-- at a listener that stands where the chart says
module _ (c : PassedChart) (p : Parts) (k : ℕ) (e : Entry) (w : links.Meaning) (at : List Shelf) (o : Outcome) (row : ℕ) (few : c.chart.n ≤ labels)
    (is : row ≡ get_or c.chart.rows e.to 0) (free : 0 < fewest p.shelves) (take : Taken p.links k e w) where
  abbrev stand : Listener
  stand = record { n = c.chart.n; f = c.f; craft = e.to; neighbours = row; few = few }

  abbrev left : Stepped
  left = stepped_at (setting c) (state p) e

  module _ (takes : TakesAt p.shelves stand e.from e.frame o at) where
    -- the step on the shelf is the step of the theory
    same_step : step stand e.from e.frame (rows_at p.shelves e.to) ≡ left
    same_step = ap (λ (r : ℕ). step (record { n = c.chart.n; f = c.f; craft = e.to; neighbours = r; few = few }) e.from e.frame (rows_at p.shelves e.to)) is

    stepped_is : stepped stand e.from e.frame (rows_at p.shelves e.to) ≡ left
    stepped_is = stepped_free p.shelves stand e.from e.frame free ∙ same_step

    pub out_is : o ≡ left.out
    out_is = takes.here.0 ∙ ap (λ (s : Stepped). s.out) stepped_is

    pub rows_are : rows_at at e.to ≡ left.rows
    rows_are = takes.here.1 ∙ ap (λ (s : Stepped). s.rows) stepped_is

    there : k < length p.links.waiting
    there = taken-below p.links k take.accepted

    module _ (w' : links.Meaning) where
      abbrev after : Parts
      after = record { links = w'; shelves = at; astray = p.astray }

      carries_with : w'.waiting ≡ remove p.links.waiting k ++ sent e.to (told_by left.out) (frame_of e.frame.author e.frame.note (set_of left.out))
          → Carries (setting c) (state p) k e (state after)
      carries_with waits = record {
        there = there;
        taken = λ d. get_or_default p.links.waiting k d e there ∙ take.entry;
        own = rows_are;
        other = λ i ne. takes.others i ne;
        waiting = waits;
        astray = refl;
      }

      -- what waits once the frame went on
      waits : (u : Unit {0}) → PassesOn w e o (Ok u) w'
          → w'.waiting ≡ remove p.links.waiting k ++ sent e.to (told_by left.out) (frame_of e.frame.author e.frame.note (set_of left.out))
      waits u on = ⊎_elim
          (λ (z : told_by o ≡ 0).
          ap (λ (v : links.Meaning). v.waiting) (on.0 z) ∙ take.waiting ∙ sym (append-nil (remove p.links.waiting k))
          ∙ ap (λ (l : List Entry). remove p.links.waiting k ++ l) (sym (each_empty (entry_to e.to (passed_frame e o)) labels))
          ∙ ap (λ (s : ℕ). remove p.links.waiting k ++ sent e.to s (passed_frame e o)) (sym z) ∙ as_left)
          (λ ne. (on.1 ne).waiting ∙ ap (λ (l : List Entry). l ++ sent e.to (told_by o) (passed_frame e o)) take.waiting ∙ as_left)
          (cases_eq (told_by o) 0)
        where
          as_left : remove p.links.waiting k ++ sent e.to (told_by o) (passed_frame e o)
              ≡ remove p.links.waiting k ++ sent e.to (told_by left.out) (frame_of e.frame.author e.frame.note (set_of left.out))
          as_left = ap (λ (r : Outcome). remove p.links.waiting k ++ sent e.to (told_by r) (passed_frame e r)) out_is

      links_kept : (u : Unit {0}) → PassesOn w e o (Ok u) w' → Kept p.links w'
      links_kept u on = ⊎_elim
          (λ (z : told_by o ≡ 0). subst (Kept p.links) (sym (on.0 z)) take.kept)
          (λ ne. let q = (on.1 ne).kept in record {
            rows = q.rows ∙ take.kept.rows;
            capacity = q.capacity ∙ take.kept.capacity;
            lent = q.lent ∙ take.kept.lent;
            needed = q.needed ∙ take.kept.needed;
          })
          (cases_eq (told_by o) 0)

      links_spare : (u : Unit {0}) → PassesOn w e o (Ok u) w' → p.links.spare ≤ w'.spare + 1
      links_spare u on = ⊎_elim
          (λ (z : told_by o ≡ 0). omega (arith, take.spare, ap (λ (v : links.Meaning). v.spare) (on.0 z)))
          (λ ne. omega (arith, take.spare, (on.1 ne).spare))
          (cases_eq (told_by o) 0)

      pub carried_on : carry_refusal p k ≡ None → (u : Unit {0}) → PassesOn w e o (Ok u) w' → (t : Option Heard) → t ≡ telling c p e → CarriedOn c p k e t after
      carried_on ok u on t answer = record {
        accepted = ok;
        carries = carries_with (waits u on);
        answer = answer;
        kept = links_kept u on;
        spare = less_spare _ _ _ _ (links_spare u on) takes.free;
      }

      pub stopped : carry_refusal p k ≡ None → (x : Fault) → PassesOn w e o (Err x) w' → Stopped c p k x after
      stopped ok x (some, same, why) = record {
        accepted = ok;
        entry = e;
        taken = subst (Taken p.links k e) (sym same) take;
        own = rows_are;
        other = takes.others;
        astray = refl;
        refused = ap (λ (v : links.Meaning). refusal (put_causes v.rows v.spare e.to (told_by left.out))) same
            ∙ ap (λ (r : Outcome). refusal (put_causes w.rows w.spare e.to (told_by r))) (sym out_is) ∙ why;
      }

    -- ---- the put is taken

    pub put_taken : p.links.rows ≡ chart_rows c.chart → 0 < spare_of p → (told_by o ≡ 0 → ⊥) → refusal (put_causes w.rows w.spare e.to (told_by o)) ≡ None
    put_taken same room some =
        let linked : (i : ℕ) → In i (told_by o) → (e.to < c.chart.n) × In i (get_or c.chart.rows e.to 0) =
        λ i h. told-linked (listener (setting c) e.to) e.from e.frame (rows_at p.shelves e.to) i (subst (λ (r : Outcome). In i (told_by r)) out_is h) in
        let m = some_member (told_by o) (omega arith) in
        puts c.chart w (take.kept.rows ∙ same) e.to (told_by o) (linked m.0 m.1).0 (omega arith)
        (bit_lacks (told_by o) e.to (not_in (told_by o) e.to (λ h. c.chart.apart e.to (linked e.to h).1)))
        (within_inside (told_by o) (get_or c.chart.rows e.to 0) (within_by (told_by o) (get_or c.chart.rows e.to 0) (λ i h. (linked i h).1)))
        (omega (arith, take.spare))

pub told_is : (c : PassedChart) (p : Parts) (k : ℕ) (e : Entry) (w : links.Meaning) (t : Option Heard) → Taken p.links k e w
    → t ≡ telling c p e → t ≡ telling c p (get_or p.links.waiting k no_entry)
told_is c p k e w t take h = h ∙ ap (telling c p) (sym take.entry ∙ get_or_default p.links.waiting k e no_entry (taken-below p.links k take.accepted))

pub heard-told : (c : PassedChart) (p : Parts) (e : Entry) → is_heard (stepped_at (setting c) (state p) e).out ≡ true → telling c p e ≡ Some (heard_by e)
heard-told c p e h = ap (λ (b : Bool). cond b (Some (heard_by e)) None) h

pub quiet_told : (c : PassedChart) (p : Parts) (e : Entry) → is_heard (stepped_at (setting c) (state p) e).out ≡ false → telling c p e ≡ None
quiet_told c p e h = ap (λ (b : Bool). cond b (Some (heard_by e)) None) h
