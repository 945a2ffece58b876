-- The agreement theorem. Assumes nothing.
--   agreement        all three parts, after every run
--   run_of           a life over one type of carriers is a run of what they mean
--   agreement_over_lem   the theorem over that type
--   continues        one call more goes on with a life, and the craft agree then
use Rattle.std.proofs.Common.{ℕ, List, ◌∷◌}
use Rattle.matter.specs.Layouts.{Kind}
use Rattle.agreement.specs.Meanings.{Meaning, Lawful}
use Rattle.agreement.specs.Flights.{State, Ledger, Event}
use Rattle.agreement.specs.Runs.{Opening, Run, still, then}
use Rattle.agreement.specs.Agreement.{Agreement}
use Rattle.agreement.specs.Lives.{state, Called, Life, begun, called, AgreementOver, Continues}
use Rattle.agreement.proofs.Opening.{kept_run, lawful_run}
use Rattle.agreement.proofs.OneContent.{one_content}
use Rattle.agreement.proofs.AtRest.{at_rest}
use Rattle.agreement.proofs.RestComes.{rest_comes}

pub agreement : Agreement
agreement g ks s₀ s es start run =
    let h = kept_run start run in
    let law = lawful_run run in
    record { content = one_content es s h law; rest = at_rest es s h law; end = rest_comes g ks s }

module _ {C : Type 0} {meaning : C → Meaning} {sound : C → Type 0} (law : (c : C) → sound c → Lawful (meaning c)) where
  -- a life of values is a run of what they mean
  run_of : {g : ℕ} {ks : List Kind} {es : List Event} {c : C} {b : Ledger} → Life meaning sound g ks es c b
      → (s₀ : State) × Opening s₀ × Run g ks s₀ es (state (meaning c) b) × sound c
  run_of (begun x) = (_, x.start, still (law _ x.kept), x.kept)
  run_of (called life x) =
      let h = run_of life in
      let ok = x.kept h.3 in
      (h.0, h.1, then h.2 (x.step h.3) (law _ ok), ok)

  pub agreement_over_lem : (g : ℕ) (ks : List Kind) → AgreementOver meaning sound g ks
  agreement_over_lem g ks es c b life = let h = run_of life in agreement g ks h.0 (state (meaning c) b) es h.1 h.2

  pub continues : {g : ℕ} {ks : List Kind} {c c' : C} {b b' : Ledger} {e : Event} → Called meaning sound g ks c b e c' b' → Continues meaning sound g ks c b e c' b'
  continues {g} {ks} {c} {c'} {b} {b'} {e} x es life = let more = called life x in (more, agreement_over_lem g ks (e ∷ es) c' b' more)
