-- What is heard once a note is heard, and once the listener has said what its turn says. Assumes nothing.
--   adds_cases       what is heard now was heard, or is the one addition
--   adds_keeps, adds_it
--                    what was heard stays, and the addition is heard
--   Own              one of the two notes that a turn can say
--   Spoken           the effect of all that a turn says
--   spoken           saying the notes of a turn has that effect
use Rattle.std.proofs.Common.{◌≡◌, ℕ, ◌+◌, ◌*◌, ◌≤◌, Bool, true, false, cond, eqb, ◌⊎◌, [], ◌∷◌, ◌++◌, sym, refl, ap, ◌∙◌, subst, inl, inr, ⊎_elim, arith}
use Rattle.std.proofs.lemmas.Bool.{or_cases, or_left, or_right, and_parts, and_from, eqb-true, eq-eqb, true≢false}
use Rattle.frames.specs.declared.notes.Step.TheVariants.{Echo, Ready}
use Rattle.frames.specs.declared.notes.Note.{Note}
use Rattle.frames.specs.Notes.{note}
use Rattle.frames.proofs.NoteLaws.{same_note_eq, same_note_self}
use Rattle.agreement.specs.Meanings.{Meaning}
use Rattle.agreement.specs.Carrying.{Adds, Said, Fixed}
use Rattle.agreement.specs.Flights.{Saying, flag}

-- ---- one triple more

module _ {m m' : Meaning} {l a : ℕ} {t : Note} (adds : Adds m l a t m') where
  pub adds_cases : (p c : ℕ) (u : Note) → m'.heard p c u ≡ true → (m.heard p c u ≡ true) ⊎ ((l ≡ p) × (a ≡ c) × (t ≡ u))
  adds_cases p c u h =
      ⊎_elim inl
      (λ e.
      let x = and_parts (eqb l p) _ e in
      let y = and_parts (eqb a c) _ x.1 in
      inr (eqb-true l p x.0, eqb-true a c y.0, same_note_eq t u y.1))
      (or_cases (m.heard p c u) _ (sym (adds.at p c u) ∙ h))

  pub adds_keeps : (p c : ℕ) (u : Note) → m.heard p c u ≡ true → m'.heard p c u ≡ true
  adds_keeps p c u h = adds.at p c u ∙ or_left (m.heard p c u) _ h

  pub adds_it : m'.heard l a t ≡ true
  adds_it = adds.at l a t ∙ or_right (m.heard l a t) _ (and_from _ _ (eq-eqb l l refl) (and_from _ _ (eq-eqb a a refl) (same_note_self t)))

-- ---- what l says, if it echoes (e) and readies (r)

abbrev pub Own : Bool → Bool → ℕ → ℕ → ℕ → Note → Type 0
Own e r o k w u = ((e ≡ true) × (note Echo o k w ≡ u)) ⊎ ((r ≡ true) × (note Ready o k w ≡ u))

pub record Spoken (g : ℕ) (m : Meaning) (l : ℕ) (e r : Bool) (o k w : ℕ) (m' : Meaning) : Type 0 where
  pub fixed : Fixed m m'
  pub astray : m'.astray ≡ m.astray
  pub toil : m'.toil ≤ m.toil + g * (flag e + flag r)
  pub keeps : (p c : ℕ) (u : Note) → m.heard p c u ≡ true → m'.heard p c u ≡ true
  pub echo : e ≡ true → m'.heard l l (note Echo o k w) ≡ true
  pub ready : r ≡ true → m'.heard l l (note Ready o k w) ≡ true
  pub only : (p c : ℕ) (u : Note) → m'.heard p c u ≡ true → (m.heard p c u ≡ true) ⊎ ((l ≡ p) × (l ≡ c) × Own e r o k w u)

fixed_then : {m m₁ m₂ : Meaning} → Fixed m m₁ → Fixed m₁ m₂ → Fixed m m₂
fixed_then x y = record { n = y.n ∙ x.n; f = y.f ∙ x.f; chart = y.chart ∙ x.chart }

pub spoken : (g : ℕ) (m : Meaning) (l : ℕ) (e r : Bool) (o k w : ℕ) (m' : Meaning)
    → Saying g m l (cond e (note Echo o k w ∷ []) [] ++ cond r (note Ready o k w ∷ []) []) m' → Spoken g m l e r o k w m'
spoken g m l true true o k w m' (m₁, x, (m₂, y, q)) =
    let z : Said g m₁ l (note Ready o k w) m' = subst (λ (i : Meaning). Said g m₁ l (note Ready o k w) i) (sym q) y in
    record {
      fixed = fixed_then x.fixed z.fixed;
      astray = z.astray ∙ x.astray;
      toil = omega (arith, x.toil, z.toil);
      keeps = λ p c u h. adds_keeps z.heard p c u (adds_keeps x.heard p c u h);
      echo = λ _. adds_keeps z.heard l l (note Echo o k w) (adds_it x.heard);
      ready = λ _. adds_it z.heard;
      only = λ p c u h. ⊎_elim
          (λ (i : m₁.heard p c u ≡ true). ⊎_elim inl (λ (j : (l ≡ p) × (l ≡ c) × (note Echo o k w ≡ u)). inr (j.0, j.1, inl (refl, j.2))) (adds_cases x.heard p c u i))
          (λ j. inr (j.0, j.1, inr (refl, j.2)))
          (adds_cases z.heard p c u h);
    }
spoken g m l true false o k w m' (m₁, x, q) =
    let z : Said g m l (note Echo o k w) m' = subst (λ (i : Meaning). Said g m l (note Echo o k w) i) (sym q) x in
    record {
      fixed = z.fixed;
      astray = z.astray;
      toil = omega (arith, z.toil);
      keeps = λ p c u h. adds_keeps z.heard p c u h;
      echo = λ _. adds_it z.heard;
      ready = λ i. absurd (true≢false (sym i));
      only = λ p c u h. ⊎_elim inl (λ (j : (l ≡ p) × (l ≡ c) × (note Echo o k w ≡ u)). inr (j.0, j.1, inl (refl, j.2))) (adds_cases z.heard p c u h);
    }
spoken g m l false true o k w m' (m₁, x, q) =
    let z : Said g m l (note Ready o k w) m' = subst (λ (i : Meaning). Said g m l (note Ready o k w) i) (sym q) x in
    record {
      fixed = z.fixed;
      astray = z.astray;
      toil = omega (arith, z.toil);
      keeps = λ p c u h. adds_keeps z.heard p c u h;
      echo = λ i. absurd (true≢false (sym i));
      ready = λ _. adds_it z.heard;
      only = λ p c u h. ⊎_elim inl (λ (j : (l ≡ p) × (l ≡ c) × (note Ready o k w ≡ u)). inr (j.0, j.1, inr (refl, j.2))) (adds_cases z.heard p c u h);
    }
spoken g m l false false o k w m' q = record {
  fixed = record { n = ap (λ (i : Meaning). i.n) q; f = ap (λ (i : Meaning). i.f) q; chart = ap (λ (i : Meaning). i.chart) q };
  astray = ap (λ (i : Meaning). i.astray) q;
  toil = omega (arith, ap (λ (i : Meaning). i.toil) q);
  keeps = λ p c u h. ap (λ (i : Meaning). i.heard p c u) q ∙ h;
  echo = λ i. absurd (true≢false (sym i));
  ready = λ i. absurd (true≢false (sym i));
  only = λ p c u h. inl (sym (ap (λ (i : Meaning). i.heard p c u) q) ∙ h);
}
