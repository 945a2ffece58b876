-- What every call keeps of votes and deliveries. Assumes nothing.
--   VotesKept          at most f are astray, every entry holds, and every Ready of a craft that is not astray has a certificate
--   DeliveriesKept     what was told is just what is delivered, and what was booked was delivered
--   votes_idle, deliveries_idle
--                      a call by which nothing is heard keeps both
--   turn_spoken        the effect of what a vote says
--   votes_turn, deliveries_turn
--                      a call by which one note is heard and voted on keeps both
--   delivered_keeps    such a call keeps what was delivered
--   here_self, here-parts
--                      the test of craft, origin and number
use Rattle.std.proofs.Common.{◌≡◌, ℕ, ◌≤◌, true, false, eqb, ◌⊎◌, List, ◌∷◌, Some, None, Option, sym, refl, ap, ◌∙◌, subst, subst₂, inl, inr, ⊎_elim, arith}
use mathlib.Core.Path.{subst₃}
use Rattle.std.proofs.lemmas.Bool.{cases_Bool, cond-true, cond-false, and_from, and_parts, eq-eqb, eqb-true, both_ways}
use Rattle.sets.specs.Sets.{count, bit}
use Rattle.frames.specs.declared.notes.Step.{Step}
use Rattle.frames.specs.declared.notes.Step.TheVariants.{Send, Echo, Ready}
use Rattle.frames.specs.declared.notes.Note.{Note}
use Rattle.frames.specs.Notes.{is_send, step_byte, note}
use Rattle.agreement.specs.Meanings.{Meaning, Honest, Lawful}
use Rattle.agreement.specs.Carrying.{Adds, Silent, Fixed}
use Rattle.agreement.specs.Votes.{Tally, hear, says_echo, says_ready}
use Rattle.agreement.specs.Flights.{State, Delivery, Event, Voted, SameVotes, here, turn}
use Rattle.agreement.specs.Runs.{Tells, Books, Delivered, Booked}
use Rattle.agreement.proofs.Turns.{delivery_keeps, delivery_made, delivery_cases}
use Rattle.agreement.proofs.HeardNotes.{adds_cases, adds_keeps, Spoken, spoken}
use Rattle.agreement.proofs.Entries.{Entry, Unheard, entry_still, entry_turn, steps, words, echo≢ready}
use Rattle.agreement.proofs.Certificates.{Certificate, certificate_lasts, certified}

pub record VotesKept (s : State) : Type 0 where
  pub few : count s.carrier.astray ≤ s.carrier.f
  pub entry : (p o k : ℕ) → Entry s.carrier.n s.carrier.f s.carrier (s.ledger.votes p o k) p o k
  pub certificate : (p o k w : ℕ) → Honest s.carrier p → s.carrier.heard p p (note Ready o k w) ≡ true → Certificate s.carrier.n s.carrier.f s.carrier o k w

-- what is told, is booked and is delivered are one
pub record DeliveriesKept (es : List Event) (s : State) : Type 0 where
  pub told : (p o k w : ℕ) → Delivered es p o k w → (s.ledger.votes p o k).delivered ≡ Some w
  pub tells : (p o k w : ℕ) → (s.ledger.votes p o k).delivered ≡ Some w → Delivered es p o k w
  pub books : (p o k w : ℕ) → Booked es p o k w → (s.ledger.votes p o k).delivered ≡ Some w

-- ---- n and f are fixed

module _ {m m' : Meaning} (fx : Fixed m m') where
  pub entry_fixed : {t t' : Tally} {p o k : ℕ} → t' ≡ t → Entry m.n m.f m' t p o k → Entry m'.n m'.f m' t' p o k
  entry_fixed {p = p} {o = o} {k = k} e h = subst₃ (λ (n f : ℕ) (t : Tally). Entry n f m' t p o k) (sym fx.n) (sym fx.f) (sym e) h

  pub certificate_fixed : {o k w : ℕ} → Certificate m.n m.f m' o k w → Certificate m'.n m'.f m' o k w
  certificate_fixed {o} {k} {w} h = subst₂ (λ (n f : ℕ). Certificate n f m' o k w) (sym fx.n) (sym fx.f) h

  pub honest_before : (p : ℕ) → (bit m'.astray p ≡ 0 → bit m.astray p ≡ 0) → Honest m' p → Honest m p
  honest_before p loyal h = record { below = omega (arith, h.below, fx.n); loyal = loyal h.loyal }

-- ---- a call by which nothing is heard

pub votes_idle : (s s' : State) → Fixed s.carrier s'.carrier → Silent s.carrier s'.carrier → SameVotes s s'
    → count s'.carrier.astray ≤ s'.carrier.f → ((i : ℕ) → bit s'.carrier.astray i ≡ 0 → bit s.carrier.astray i ≡ 0) → VotesKept s → VotesKept s'
votes_idle s s' fx silent same few loyal h = record {
  few = few;
  entry = λ p o k. entry_fixed fx (same p o k) (entry_still (h.entry p o k)
      (record { keeps = λ a x v e. silent.at p a (note x o k v) ∙ e; only = λ a x v e. sym (silent.at p a (note x o k v)) ∙ e }));
  certificate = λ p o k w hp e. certificate_fixed fx (certificate_lasts {m = s.carrier} (λ a i. silent.at a a (note Echo o k w) ∙ i) loyal
      (h.certificate p o k w (honest_before fx p (loyal p) hp) (sym (silent.at p p (note Ready o k w)) ∙ e)));
}

pub deliveries_idle : (es : List Event) (e : Event) (s s' : State) → SameVotes s s' → ((p o k w : ℕ) → Tells e p o k w → ⊥)
    → ((p o k w : ℕ) → Books e p o k w → (s.ledger.votes p o k).delivered ≡ Some w) → DeliveriesKept es s → DeliveriesKept (e ∷ es) s'
deliveries_idle es e s s' same no_Tells books h = record {
  told = λ p o k w. ⊎_elim (λ (x : Tells e p o k w). absurd (no_Tells p o k w x)) (λ x. ap (λ (t : Tally). t.delivered) (same p o k) ∙ h.told p o k w x);
  tells = λ p o k w x. inr (h.tells p o k w (sym (ap (λ (t : Tally). t.delivered) (same p o k)) ∙ x));
  books = λ p o k w. ⊎_elim
      (λ (x : Books e p o k w). ap (λ (t : Tally). t.delivered) (same p o k) ∙ books p o k w x)
      (λ x. ap (λ (t : Tally). t.delivered) (same p o k) ∙ h.books p o k w x);
}

-- ---- a call by which l hears t of a

pub here_self : (l o k : ℕ) → here l o k l o k ≡ true
here_self l o k = and_from (eqb l l) _ (eq-eqb l l refl) (and_from (eqb o o) _ (eq-eqb o o refl) (eq-eqb k k refl))

here_by : {l o k p b j : ℕ} → l ≡ p → o ≡ b → k ≡ j → here l o k p b j ≡ true
here_by {l} {o} {k} {p} {b} {j} x y z = and_from (eqb l p) _ (eq-eqb l p x) (and_from (eqb o b) _ (eq-eqb o b y) (eq-eqb k j z))

pub here-parts : (l o k p b j : ℕ) → here l o k p b j ≡ true → (l ≡ p) × (o ≡ b) × (k ≡ j)
here-parts l o k p b j e =
    let x = and_parts (eqb l p) _ e in
    let y = and_parts (eqb o b) _ x.1 in
    (eqb-true l p x.0, eqb-true o b y.0, eqb-true k j y.1)

origins : {t u : Note} → t ≡ u → t.origin ≡ u.origin
origins e = ap (λ (i : Note). i.origin) e

numbers : {t u : Note} → t ≡ u → t.number ≡ u.number
numbers e = ap (λ (i : Note). i.number) e

same_delivery : {x y : Delivery} → Some x ≡ Some y → x ≡ y
same_delivery {x} {y} q = cc

none_some : {x : Delivery} → None ≡ Some x → ⊥
none_some {x} q = let z : ◌≡◌ {A = ℕ} 0 1 = cc in omega arith

module _ (g : ℕ) (s s' : State) (m₁ : Meaning) (l a : ℕ) (t : Note) (d : Option Delivery)
    (fx : Fixed s.carrier m₁) (same-astray : m₁.astray ≡ s.carrier.astray) (adds : Adds s.carrier l a t m₁)
    (apart : is_send t.step ≡ false → a ≡ l → ⊥) (source : is_send t.step ≡ true → a ≡ t.origin)
    (v : Voted g s m₁ l a t d s') where
  abbrev m : Meaning
  m = s.carrier

  abbrev m' : Meaning
  m' = s'.carrier

  abbrev tally : Tally
  tally = s.ledger.votes l t.origin t.number

  pub turn_spoken : Spoken g m₁ l (says_echo m.n m.f l a t.content tally t.step) (says_ready m.n m.f l a t.content tally t.step) t.origin t.number t.content m'
  unfolding hear
  turn_spoken = spoken g m₁ l (says_echo m.n m.f l a t.content tally t.step) (says_ready m.n m.f l a t.content tally t.step) t.origin t.number t.content m' v.says

  turn_fixed : Fixed m m'
  turn_fixed = let x = turn_spoken.fixed in record { n = x.n ∙ fx.n; f = x.f ∙ fx.f; chart = x.chart ∙ fx.chart }

  turn_astray : m'.astray ≡ m.astray
  turn_astray = turn_spoken.astray ∙ same-astray

  turn_keeps : (p c : ℕ) (u : Note) → m.heard p c u ≡ true → m'.heard p c u ≡ true
  turn_keeps p c u e = turn_spoken.keeps p c u (adds_keeps adds p c u e)

  turn_loyal : (i : ℕ) → bit m'.astray i ≡ 0 → bit m.astray i ≡ 0
  turn_loyal i e = ap (λ (z : ℕ). bit z i) (sym turn_astray) ∙ e

  elsewhere : (p o k : ℕ) → here l t.origin t.number p o k ≡ false → Unheard m m' p o k
  elsewhere p o k ne = record {
    keeps = λ c x w e. turn_keeps p c (note x o k w) e;
    only = λ c x w e. ⊎_elim
        (λ (i : m₁.heard p c (note x o k w) ≡ true). ⊎_elim
        (λ (j : m.heard p c (note x o k w) ≡ true). j)
        (λ j. absurd (both_ways (here l t.origin t.number p o k) ne (here_by j.0 (origins j.2) (numbers j.2))))
        (adds_cases adds p c (note x o k w) i))
        (λ i. absurd (both_ways (here l t.origin t.number p o k) ne (⊎_elim
        (λ (j : (_ ≡ true) × (note Echo t.origin t.number t.content ≡ note x o k w)). here_by i.0 (origins j.1) (numbers j.1))
        (λ j. here_by i.0 (origins j.1) (numbers j.1))
        i.2)))
        (turn_spoken.only p c (note x o k w) e);
  }

  votes_here : (p o k : ℕ) → here l t.origin t.number p o k ≡ true → s'.ledger.votes p o k ≡ (turn s l a t).after
  votes_here p o k e = v.votes p o k ∙ cond-true (here l t.origin t.number p o k) (turn s l a t).after (s.ledger.votes p o k) e

  votes_there : (p o k : ℕ) → here l t.origin t.number p o k ≡ false → s'.ledger.votes p o k ≡ s.ledger.votes p o k
  votes_there p o k e = v.votes p o k ∙ cond-false (here l t.origin t.number p o k) (turn s l a t).after (s.ledger.votes p o k) e

  module _ (h : VotesKept s) (law : Lawful s'.carrier) where
    entry_here : Entry m.n m.f m' (turn s l a t).after l t.origin t.number
    entry_here = entry_turn m.n m.f g m m₁ m' tally l a t.origin t.number t.content t.step apart source adds turn_spoken (h.entry l t.origin t.number)

    turn_few : count m'.astray ≤ m.f
    turn_few = omega (arith, ap count turn_astray, h.few)

    -- what another said it had said before
    others : (b : ℕ) → Honest m' b → (b ≡ l → ⊥) → m'.heard b b (note Ready t.origin t.number t.content) ≡ true → Certificate m.n m.f m' t.origin t.number t.content
    others b hb ne e = certificate_lasts {m = m} (λ c. turn_keeps c c (note Echo t.origin t.number t.content)) turn_loyal
        (h.certificate b t.origin t.number t.content (honest_before turn_fixed b (turn_loyal b) hb)
        (⊎_elim
        (λ (i : m₁.heard b b (note Ready t.origin t.number t.content) ≡ true). ⊎_elim
        (λ (j : m.heard b b (note Ready t.origin t.number t.content) ≡ true). j) (λ j. absurd (ne (sym j.0)))
        (adds_cases adds b b (note Ready t.origin t.number t.content) i))
        (λ i. absurd (ne (sym i.0)))
        (turn_spoken.only b b (note Ready t.origin t.number t.content) e)))

    made : Honest m' l → says_ready m.n m.f l a t.content tally t.step ≡ true → Certificate m.n m.f m' t.origin t.number t.content
    unfolding hear
    made hl e =
        certified m.n m.f m' t.origin t.number t.content law turn_fixed.n turn_few l hl a tally t.step e entry_here.echo entry_here.ready others

    not_send : (u : Note) → step_byte u.step ≡ step_byte Ready → is_send u.step ≡ false
    not_send u e = go u.step e
      where
        go : (x : Step) → step_byte x ≡ step_byte Ready → is_send x ≡ false
        go Send i = absurd (omega arith)
        go Echo i = refl
        go Ready i = refl

    certificate_turn : (p o k w : ℕ) → Honest m' p → m'.heard p p (note Ready o k w) ≡ true → Certificate m.n m.f m' o k w
    certificate_turn p o k w hp e = ⊎_elim
        (λ (i : m₁.heard p p (note Ready o k w) ≡ true). ⊎_elim
        (λ (j : m.heard p p (note Ready o k w) ≡ true).
        certificate_lasts {m = m} (λ c. turn_keeps c c (note Echo o k w)) turn_loyal (h.certificate p o k w (honest_before turn_fixed p (turn_loyal p) hp) j))
        (λ j. absurd (apart (not_send t (ap (λ (z : Note). step_byte z.step) j.2)) (j.1 ∙ sym j.0)))
        (adds_cases adds p p (note Ready o k w) i))
        (λ i. ⊎_elim
        (λ (j : (_ ≡ true) × (note Echo t.origin t.number t.content ≡ note Ready o k w)). absurd (echo≢ready (steps j.1)))
        (λ j. subst₃ (λ (b c x : ℕ). Certificate m.n m.f m' b c x) (origins j.1) (numbers j.1) (words j.1)
        (made (subst (λ (z : ℕ). Honest m' z) (sym i.0) hp) j.0))
        i.2)
        (turn_spoken.only p p (note Ready o k w) e)

    pub votes_turn : VotesKept s'
    votes_turn = record {
      few = omega (arith, turn_few, turn_fixed.f);
      entry = λ p o k. ⊎_elim
          (λ (e : here l t.origin t.number p o k ≡ true).
          let q = here-parts l t.origin t.number p o k e in
          entry_fixed turn_fixed (votes_here p o k e) (subst₃ (λ (i b j : ℕ). Entry m.n m.f m' (turn s l a t).after i b j) q.0 q.1 q.2 entry_here))
          (λ e. entry_fixed turn_fixed (votes_there p o k e) (entry_still (h.entry p o k) (elsewhere p o k e)))
          (cases_Bool (here l t.origin t.number p o k));
      certificate = λ p o k w hp e. certificate_fixed turn_fixed (certificate_turn p o k w hp e);
    }

  -- ---- what the answer tells

  abbrev delivery : Delivery
  delivery = record { craft = l; origin = t.origin; number = t.number; word = t.content }

  pub delivered_keeps : (p o k w : ℕ) → (s.ledger.votes p o k).delivered ≡ Some w → (s'.ledger.votes p o k).delivered ≡ Some w
  delivered_keeps p o k w e = ⊎_elim
      (λ (i : here l t.origin t.number p o k ≡ true).
      let q = here-parts l t.origin t.number p o k i in
      let e' : tally.delivered ≡ Some w = subst₃ (λ (x b j : ℕ). (s.ledger.votes x b j).delivered ≡ Some w) (sym q.0) (sym q.1) (sym q.2) e in
      ap (λ (z : Tally). z.delivered) (votes_here p o k i) ∙ delivery_keeps m.n m.f l a t.content tally t.step w e')
      (λ i. ap (λ (z : Tally). z.delivered) (votes_there p o k i) ∙ e)
      (cases_Bool (here l t.origin t.number p o k))

  told_now : (p o k w : ℕ) → d ≡ Some (record { craft = p; origin = o; number = k; word = w }) → (s'.ledger.votes p o k).delivered ≡ Some w
  told_now p o k w e = ⊎_elim
      (λ (i : (turn s l a t).delivers ≡ true).
      let q : Some delivery ≡ Some (record { craft = p; origin = o; number = k; word = w }) = sym (cond-true (turn s l a t).delivers (Some delivery) None i) ∙ sym v.told ∙ e in
      let r : delivery ≡ record { craft = p; origin = o; number = k; word = w } = same_delivery q in
      let x : l ≡ p = ap (λ (z : Delivery). z.craft) r in
      let y : t.origin ≡ o = ap (λ (z : Delivery). z.origin) r in
      let z : t.number ≡ k = ap (λ (z : Delivery). z.number) r in
      let u : t.content ≡ w = ap (λ (z : Delivery). z.word) r in
      ap (λ (z : Tally). z.delivered) (votes_here p o k (here_by x y z)) ∙ delivery_made m.n m.f l a t.content tally t.step i ∙ ap (λ (c : ℕ). Some c) u)
      (λ i. absurd (none_some (sym (cond-false (turn s l a t).delivers (Some delivery) None i) ∙ sym v.told ∙ e)))
      (cases_Bool (turn s l a t).delivers)

  tells_now : (p o k w : ℕ) → (s'.ledger.votes p o k).delivered ≡ Some w
      → (d ≡ Some (record { craft = p; origin = o; number = k; word = w })) ⊎ ((s.ledger.votes p o k).delivered ≡ Some w)
  tells_now p o k w e = ⊎_elim
      (λ (i : here l t.origin t.number p o k ≡ true).
      let q = here-parts l t.origin t.number p o k i in
      ⊎_elim
      (λ (j : ((turn s l a t).delivers ≡ true) × (t.content ≡ w)).
      inl (v.told ∙ cond-true (turn s l a t).delivers (Some delivery) None j.0 ∙ (λ z. Some (record { craft = q.0 z; origin = q.1 z; number = q.2 z; word = j.1 z }))))
      (λ j. inr (subst₃ (λ (x b c : ℕ). (s.ledger.votes x b c).delivered ≡ Some w) q.0 q.1 q.2 j))
      (delivery_cases m.n m.f l a t.content tally t.step w (sym (ap (λ (z : Tally). z.delivered) (votes_here p o k i)) ∙ e)))
      (λ i. inr (sym (ap (λ (z : Tally). z.delivered) (votes_there p o k i)) ∙ e))
      (cases_Bool (here l t.origin t.number p o k))

  pub deliveries_turn : (es : List Event) (e : Event)
      → ((p o k w : ℕ) → Tells e p o k w → d ≡ Some (record { craft = p; origin = o; number = k; word = w }))
      → ((p o k w : ℕ) → d ≡ Some (record { craft = p; origin = o; number = k; word = w }) → Tells e p o k w)
      → ((p o k w : ℕ) → Books e p o k w → ⊥) → DeliveriesKept es s → DeliveriesKept (e ∷ es) s'
  deliveries_turn es e to from no-books h = record {
    told = λ p o k w. ⊎_elim (λ (x : Tells e p o k w). told_now p o k w (to p o k w x)) (λ x. delivered_keeps p o k w (h.told p o k w x));
    tells = λ p o k w x. ⊎_elim (λ (y : d ≡ Some (record { craft = p; origin = o; number = k; word = w })). inl (from p o k w y)) (λ y. inr (h.tells p o k w y)) (tells_now p o k w x);
    books = λ p o k w. ⊎_elim (λ (x : Books e p o k w). absurd (no-books p o k w x)) (λ x. delivered_keeps p o k w (h.books p o k w x));
  }
