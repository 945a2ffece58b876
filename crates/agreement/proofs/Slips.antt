-- A slip that is out has a delivered word to be booked. Assumes nothing.
--   SlipsKept     so for every slip
--   slips_step    every call keeps that
--   slips_open    it holds at an opening
--   slip_word     so in every run
use Rattle.std.proofs.Common.{◌≡◌, ℕ, true, List, Some, sym, refl, ap, ◌∙◌, ⊎_elim}
use mathlib.Core.Path.{subst₃}
use Rattle.std.proofs.lemmas.Bool.{or_cases, and_parts, both_ways, true≢false}
use Rattle.matter.specs.Layouts.{Kind}
use Rattle.frames.specs.declared.notes.Step.TheVariants.{Send}
use Rattle.frames.specs.Notes.{note}
use Rattle.agreement.specs.Votes.{Tally, present}
use Rattle.agreement.specs.Flights.{State, Ledger, Event, ordered, moved, heard, meddled, collected, booked, returned, refused, collect, here, Accepted, Answered, SameVotes}
use Rattle.agreement.specs.Runs.{Opening, Run, still, then}
use Rattle.agreement.proofs.FirstVotes.{some_present}
use Rattle.agreement.proofs.Room.{collect_passed}
use Rattle.agreement.proofs.KeptVotes.{delivered_keeps, here-parts}
use Rattle.agreement.proofs.KeptRuns.{source_of}

-- a word was delivered
abbrev pub Word : Ledger → ℕ → ℕ → ℕ → Type 0
Word b c o k = (w : ℕ) × ((b.votes c o k).delivered ≡ Some w)

abbrev pub SlipsKept : State → Type 0
SlipsKept s = (c o k : ℕ) → s.ledger.out c o k ≡ true → Word s.ledger c o k

same_word : (s s' : State) → SameVotes s s' → (c o k : ℕ) → Word s.ledger c o k → Word s'.ledger c o k
same_word s s' same c o k h = (h.0, ap (λ (t : Tally). t.delivered) (same c o k) ∙ h.1)

-- who may be collected has a word
collected_word : (ks : List Kind) (s : State) (c o k : ℕ) → Accepted ks s (collect c o k) → Word s.ledger c o k
collected_word ks s c o k e =
    some_present (s.ledger.votes c o k).delivered (and_parts (present (s.ledger.votes c o k).delivered) _ (collect_passed ks s c o k e).3).0

pub slips_step : (g : ℕ) (ks : List Kind) (s s' : State) (e : Event) → Answered g ks s e s' → SlipsKept s → SlipsKept s'
slips_step g ks s s' (ordered c k w d) x h b o j e =
    let i = h b o j (sym (x.1.slips.out b o j) ∙ e) in
    let y = x.1.said in
    (i.0, delivered_keeps g s s' x.1.between c c (note Send c k w) d y.fixed y.astray y.heard (λ q _. true≢false q) (λ _. refl) x.1.voted b o j i.0 i.1)
slips_step g ks s s' (moved n) x h c o k e =
    same_word s s' (λ b p j. ap (λ (z : Ledger). z.votes b p j) x.1.ledger) c o k (h c o k (sym (ap (λ (z : Ledger). z.out c o k) x.1.ledger) ∙ e))
slips_step g ks s s' (heard n l a t d) x h c o k e =
    let i = h c o k (sym (x.1.slips.out c o k) ∙ e) in
    let y = x.1.hears in
    (i.0, delivered_keeps g s s' x.1.between l a t d y.fixed y.astray y.heard (λ _ q. y.apart (sym q)) (source_of s.carrier.n a t y.sound) x.1.voted c o k i.0 i.1)
slips_step g ks s s' (meddled m to u) x h c o k e =
    same_word s s' (λ b p j. ap (λ (z : Ledger). z.votes b p j) x.1.ledger) c o k (h c o k (sym (ap (λ (z : Ledger). z.out c o k) x.1.ledger) ∙ e))
slips_step g ks s s' (collected b p j) x h c o k e =
    same_word s s' x.1.votes c o k (⊎_elim
    (λ (i : s.ledger.out c o k ≡ true). h c o k i)
    (λ i. let q = here-parts b p j c o k i in subst₃ (λ (y z u : ℕ). Word s.ledger y z u) q.0 q.1 q.2 (collected_word ks s b p j x.0))
    (or_cases (s.ledger.out c o k) (here b p j c o k) (sym (x.1.out c o k) ∙ e)))
slips_step g ks s s' (booked b p j place buffer after) x h c o k e =
    same_word s s' x.1.votes c o k (h c o k (and_parts (s.ledger.out c o k) _ (sym (x.1.out c o k) ∙ e)).0)
slips_step g ks s s' (returned b p j) x h c o k e =
    same_word s s' x.1.votes c o k (h c o k (and_parts (s.ledger.out c o k) _ (sym (x.1.out c o k) ∙ e)).0)
slips_step g ks s s' (refused b v) x h c o k e =
    same_word s s' (λ y p j. ap (λ (z : State). z.ledger.votes y p j) x.1) c o k (h c o k (sym (ap (λ (z : State). z.ledger.out c o k) x.1) ∙ e))

pub slips_open : (s : State) → Opening s → SlipsKept s
slips_open s start c o k e = absurd (both_ways (s.ledger.out c o k) (start.empty.out c o k) e)

pub slip_word : {g : ℕ} {ks : List Kind} {s₀ s : State} {es : List Event} → Opening s₀ → Run g ks s₀ es s
    → (c o k : ℕ) → s.ledger.out c o k ≡ true → (w : ℕ) × ((s.ledger.votes c o k).delivered ≡ Some w)
slip_word {s₀ = s₀} start (still ok) c o k e = slips_open s₀ start c o k e
slip_word {g} {ks} start (then {t = t} {u = u} {e = call} run x ok) c o k e = slips_step g ks t u call x (slip_word start run) c o k e
