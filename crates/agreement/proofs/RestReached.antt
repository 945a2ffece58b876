-- Rest is reached. Assumes nothing.
--   halted_by      a refused carry of index 0 has its cause: the flight has halted
--   not_halted     an accepted one has none
--   one_carry      a carry of index 0 is accepted by a flight that has not halted, or leaves one that has
--   all_or_halt    of such carries all are accepted, or the flight has halted
use Rattle.std.proofs.Common.{◌≡◌, ℕ, ◌<◌, ◌≤◌, ◌⊎◌, List, [], ◌∷◌, length, Some, sym, refl, ◌∙◌, subst, inl, inr, ⊎_elim, arith}
use Rattle.std.proofs.lemmas.Bool.{cases_lt, lt-leb, leb-false, le-ltb, ltb-false}
use Rattle.std.proofs.lemmas.Option.{none-some}
use Rattle.refusals.specs.Refusals.{Told, refusal}
use Rattle.refusals.proofs.FirstCause.{clear, accepts}
use Rattle.matter.specs.Layouts.{Kind}
use Rattle.agreement.specs.Flights.{State, Event, ordered, moved, heard, meddled, collected, booked, returned, refused, order, carry, meddle, collect, book, put_back, causes, Accepted, Answered, flight_toil}
use Rattle.agreement.specs.Runs.{Run, still, then, Carry, Carries, accepted, accepted_in}
use Rattle.agreement.specs.Rest.{OldestCarried, OldestCarries, Halted, RestReached}
use Rattle.agreement.proofs.RestComes.{rest_comes}

halted_by : (ks : List Kind) (s : State) (v : Told) → refusal (causes ks s (carry 0)) ≡ Some v → Halted s.carrier
halted_by ks s v e = ⊎_elim
    (λ (w : 0 < s.carrier.waiting). ⊎_elim
    (λ (r : s.carrier.spare < 3). inr r)
    (λ r. absurd (none-some _ (sym (accepts (causes ks s (carry 0)) (lt-leb s.carrier.waiting 0 w, (le-ltb s.carrier.spare 3 r, tt))) ∙ e)))
    (cases_lt s.carrier.spare 3))
    (λ w. inl (omega arith))
    (cases_lt 0 s.carrier.waiting)

not_halted : (ks : List Kind) (s : State) → Accepted ks s (carry 0) → Halted s.carrier → ⊥
not_halted ks s e =
    let h = clear (causes ks s (carry 0)) e in
    let w = leb-false s.carrier.waiting 0 h.0 in
    let r = ltb-false s.carrier.spare 3 h.1.0 in
    ⊎_elim (λ (z : s.carrier.waiting ≡ 0). omega (arith, z, w)) (λ z. omega (arith, z, r))

-- the call was accepted, and the flight had not halted; or it has now
abbrev Way : State → Event → State → Type 0
Way s e s' = ((accepted e ≡ 1) × (Halted s.carrier → ⊥)) ⊎ Halted s'.carrier

one_carry : (g : ℕ) (ks : List Kind) (s s' : State) (e : Event) → OldestCarried e → Answered g ks s e s' → Way s e s'
one_carry g ks s s' (ordered c k w d) only x = absurd only
one_carry g ks s s' (moved i) only x = inl (refl, not_halted ks s (subst (λ (j : ℕ). Accepted ks s (carry j)) only x.0))
one_carry g ks s s' (heard i l a t d) only x = inl (refl, not_halted ks s (subst (λ (j : ℕ). Accepted ks s (carry j)) only x.0))
one_carry g ks s s' (meddled c to u) only x = absurd only
one_carry g ks s s' (collected c o k) only x = absurd only
one_carry g ks s s' (booked c o k place buffer after) only x = absurd only
one_carry g ks s s' (returned c o k) only x = absurd only
one_carry g ks s s' (refused (order c k w) v) only x = absurd only
one_carry g ks s s' (refused (carry i) v) only x =
    inr (subst (λ (z : State). Halted z.carrier) (sym x.1) (halted_by ks s v (subst (λ (j : ℕ). refusal (causes ks s (carry j)) ≡ Some v) only x.0)))
one_carry g ks s s' (refused (meddle c to u) v) only x = absurd only
one_carry g ks s s' (refused (collect c o k) v) only x = absurd only
one_carry g ks s s' (refused (book c o k place buffer) v) only x = absurd only
one_carry g ks s s' (refused (put_back c o k) v) only x = absurd only

-- a carry of index 0 is a carry
is_carry : (e : Event) → OldestCarried e → Carry e
is_carry (ordered c k w d) only = only
is_carry (moved i) only = tt
is_carry (heard i l a t d) only = tt
is_carry (meddled c to u) only = only
is_carry (collected c o k) only = only
is_carry (booked c o k place buffer after) only = only
is_carry (returned c o k) only = only
is_carry (refused (order c k w) v) only = only
is_carry (refused (carry i) v) only = tt
is_carry (refused (meddle c to u) v) only = only
is_carry (refused (collect c o k) v) only = only
is_carry (refused (book c o k place buffer) v) only = only
is_carry (refused (put_back c o k) v) only = only

are_carries : (es : List Event) → OldestCarries es → Carries es
are_carries [] only = tt
are_carries (e ∷ es) only = (is_carry e only.0, are_carries es only.1)

all_or_halt : {g : ℕ} {ks : List Kind} {s s' : State} {cs : List Event} → Run g ks s cs s' → OldestCarries cs → (accepted_in cs ≡ length cs) ⊎ Halted s'.carrier
all_or_halt (still ok) only = inl refl
all_or_halt {g} {ks} (then {t = t} {u = u} {es = es} {e = e} run x ok) only = ⊎_elim
    (λ (i : (accepted e ≡ 1) × (Halted t.carrier → ⊥)). ⊎_elim
    (λ (j : accepted_in es ≡ length es). inl (omega (arith, i.0, j)))
    (λ j. absurd (i.1 j))
    (all_or_halt run only.1))
    inr
    (one_carry g ks t u e only.0 x)

pub rest_reached : RestReached
rest_reached g ks s s' cs run only long = ⊎_elim
    (λ (i : accepted_in cs ≡ length cs).
    let few : accepted_in cs ≤ flight_toil g s = rest_comes g ks s cs s' run (are_carries cs only) in
    absurd (past (accepted_in cs) (length cs) (flight_toil g s) i few long))
    (λ i. i)
    (all_or_halt run only)
  where
    past : (a b c : ℕ) → a ≡ b → a ≤ c → c < b → ⊥
    past a b c x y z = omega arith
