-- What every call keeps holds at the opening, so after every list of calls. Assumes nothing.
--   kept_opening   it holds at the opening
--   kept_run       it holds after every run
--   lawful_run     the carrier is lawful after every run
use Rattle.std.proofs.Common.{◌≡◌, ℕ, ◌<◌, true, List, [], None, sym, ap, ◌∙◌, subst, arith}
use Rattle.std.proofs.lemmas.Option.{none-some}
use Rattle.std.proofs.lemmas.Bool.{both_ways, true≢false}
use Rattle.sets.specs.Sets.{count, bit}
use Rattle.sets.proofs.Counts.{count-zero}
use Rattle.sets.proofs.Bits.{bit-zero}
use Rattle.sets.proofs.Passing.{one_passes_outside}
use Rattle.matter.specs.Layouts.{Kind}
use Rattle.frames.specs.declared.notes.Step.{Step}
use Rattle.frames.specs.declared.notes.Step.TheVariants.{Send, Echo, Ready}
use Rattle.frames.specs.Notes.{note}
use Rattle.agreement.specs.Meanings.{Meaning, Lawful, Fresh}
use Rattle.agreement.specs.Votes.{Tally, blank, is, backers}
use Rattle.agreement.specs.Flights.{State, Event}
use Rattle.agreement.specs.Runs.{Opening, Run, still, then}
use Rattle.agreement.proofs.HeardVotes.{Matches}
use Rattle.agreement.proofs.Entries.{Entry}
use Rattle.agreement.proofs.KeptRuns.{Kept, kept_step}

no_backers : (n v : ℕ) → 0 < backers n (λ a. None) v → ⊥
unfolding backers
no_backers n v h = true≢false (sym (one_passes_outside n 0 0 (λ a. is None v) h (omega (arith, count-zero))).2)

module _ (m : Meaning) (fresh : Fresh m) where
  unheard : {X : Type 0} (l a : ℕ) (x : Step) (o k w : ℕ) → m.heard l a (note x o k w) ≡ true → X
  unheard l a x o k w e = absurd (both_ways (m.heard l a (note x o k w)) (fresh.heard l a (note x o k w)) e)

  blank_matches : (x : Step) (p o k : ℕ) → Matches m x p o k (λ a. None)
  blank_matches x p o k = record {
    heard = λ a v e. absurd (none-some _ e);
    kept = λ a v e. unheard p a x o k v e;
    own = λ v e. unheard p p x o k v e;
  }

  blank_entry : (n f p o k : ℕ) → Entry n f m blank p o k
  blank_entry n f p o k = record {
    settled = record {
      by_echoes = λ v h. absurd (no_backers n v (omega (arith, h)));
      by_readies = λ v h. absurd (no_backers n v (omega (arith, h)));
      by_enough = λ v h. absurd (no_backers n v (omega (arith, h)));
    };
    counted = λ v e. absurd (none-some _ e);
    echo = blank_matches Echo p o k;
    ready = blank_matches Ready p o k;
    cause = λ v e. unheard p p Echo o k v e;
    echoed = λ v e. unheard p o Send o k v e;
  }

kept_opening : (s : State) → Opening s → Kept [] s
kept_opening s h =
    let m = s.carrier in
    let fresh = h.fresh in
    record {
      votes = record {
        few = omega (arith, ap count fresh.astray, count-zero);
        entry = λ p o k. subst (λ (t : Tally). Entry m.n m.f m t p o k) (sym (h.empty.votes p o k)) (blank_entry m fresh m.n m.f p o k);
        certificate = λ p o k w hp e. unheard m fresh p p Ready o k w e;
      };
      deliveries = record {
        told = λ p o k w x. absurd x;
        tells = λ p o k w e. absurd (none-some _ (sym (ap (λ (t : Tally). t.delivered) (h.empty.votes p o k)) ∙ e));
        books = λ p o k w x. absurd x;
      };
      sends = record {
        marked = λ o k w e. unheard m fresh o o Send o k w e;
        once = λ o k w v e i. unheard m fresh o o Send o k w e;
        ordered = λ o k w e. unheard m fresh o o Send o k w e;
        sent = λ o k w x. absurd x;
      };
      astray = λ i e. absurd (omega (arith, ap (λ (z : ℕ). bit z i) fresh.astray, bit-zero i, e));
    }

pub kept_run : {g : ℕ} {ks : List Kind} {s₀ s : State} {es : List Event} → Opening s₀ → Run g ks s₀ es s → Kept es s
kept_run start (still ok) = kept_opening _ start
kept_run start (then run x ok) = kept_step _ _ _ _ _ _ x ok (kept_run start run)

pub lawful_run : {g : ℕ} {ks : List Kind} {s₀ s : State} {es : List Event} → Run g ks s₀ es s → Lawful s.carrier
lawful_run (still ok) = ok
lawful_run (then run x ok) = ok
