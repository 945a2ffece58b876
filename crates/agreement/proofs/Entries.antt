-- The votes of one craft on one order, against what was heard. Assumes nothing.
--   Entry            its turns are settled and counted, both tables match, it echoes just what it heard sent, and it has echoed what it heard sent
--   Unheard          nothing more of this order is heard at p
--   entry_still      then its entry holds as before
--   entry_turn       its entry holds after a turn
--   words, steps, echo≢ready, echo≢send, ready≢send
--                    notes told apart by word and by step
use Rattle.std.proofs.Common.{◌≡◌, ℕ, Bool, true, false, cond, Option, sym, refl, ap, ◌∙◌, inl, inr, ⊎_elim, arith}
use Rattle.std.proofs.lemmas.Bool.{cases_Bool, and_parts, not-true, not-false, cond-true, true≢false}
use Rattle.frames.specs.declared.notes.Step.{Step}
use Rattle.frames.specs.declared.notes.Step.TheVariants.{Send, Echo, Ready}
use Rattle.frames.specs.declared.notes.Note.{Note}
use Rattle.frames.specs.Notes.{is_send, step_byte, note}
use Rattle.agreement.specs.Meanings.{Meaning}
use Rattle.agreement.specs.Carrying.{Adds}
use Rattle.agreement.specs.Votes.{Tally, present, first, hear, says_echo, echo_after, ready_heard, ready_due, says_ready, ready_after}
use Rattle.agreement.proofs.FirstVotes.{first_there, grows_present}
use Rattle.agreement.proofs.Turns.{Settled, Counted, settled_after, counted_after, grows_echo}
use Rattle.agreement.proofs.HeardNotes.{adds_cases, adds_keeps, adds_it, Own, Spoken}
use Rattle.agreement.proofs.HeardVotes.{Matches, More, Still, matches_more, matches_still}

pub record Entry (n f : ℕ) (m : Meaning) (t : Tally) (p o k : ℕ) : Type 0 where
  pub settled : Settled n f p t
  pub counted : Counted n f t
  pub echo : Matches m Echo p o k t.echo
  pub ready : Matches m Ready p o k t.ready
  -- it echoes what it heard sent, and what it heard sent it has echoed
  pub cause : (v : ℕ) → m.heard p p (note Echo o k v) ≡ true → m.heard p o (note Send o k v) ≡ true
  pub echoed : (v : ℕ) → m.heard p o (note Send o k v) ≡ true → present (t.echo p) ≡ true

-- nothing more of this order is heard at p
pub record Unheard (m m' : Meaning) (p o k : ℕ) : Type 0 where
  pub keeps : (a : ℕ) (x : Step) (v : ℕ) → m.heard p a (note x o k v) ≡ true → m'.heard p a (note x o k v) ≡ true
  pub only : (a : ℕ) (x : Step) (v : ℕ) → m'.heard p a (note x o k v) ≡ true → m.heard p a (note x o k v) ≡ true

pub entry_still : {n f : ℕ} {m m' : Meaning} {t : Tally} {p o k : ℕ} → Entry n f m t p o k → Unheard m m' p o k → Entry n f m' t p o k
entry_still h y = record {
  settled = h.settled;
  counted = h.counted;
  echo = matches_still h.echo (record { keeps = λ a v. y.keeps a Echo v; only = λ a v. y.only a Echo v });
  ready = matches_still h.ready (record { keeps = λ a v. y.keeps a Ready v; only = λ a v. y.only a Ready v });
  cause = λ v e. y.keeps _ Send v (h.cause v (y.only _ Echo v e));
  echoed = λ v e. h.echoed v (y.only _ Send v e);
}

-- ---- notes told apart

pub words : {x y : Step} {o k w b j v : ℕ} → note x o k w ≡ note y b j v → w ≡ v
words e = ap (λ (t : Note). t.content) e

pub steps : {x y : Step} {o k w b j v : ℕ} → note x o k w ≡ note y b j v → step_byte x ≡ step_byte y
steps e = ap (λ (t : Note). step_byte t.step) e

pub echo≢ready : step_byte Echo ≡ step_byte Ready → ⊥
echo≢ready e = omega arith

pub echo≢send : step_byte Echo ≡ step_byte Send → ⊥
echo≢send e = omega arith

pub ready≢send : step_byte Ready ≡ step_byte Send → ⊥
ready≢send e = omega arith

no_send : (x : Step) → (step_byte x ≡ 1 → ⊥) → is_send x ≡ false
no_send Send ne = absurd (ne refl)
no_send Echo ne = refl
no_send Ready ne = refl

-- ---- a turn

-- l, for which (l, a, note x o k w) has just been added, speaks as its votes have it
module _ (n f g : ℕ) (m m₁ m' : Meaning) (t : Tally) (l a o k w : ℕ) where
  -- a note of another step adds nothing of step y
  still_added : (x y : Step) → (step_byte x ≡ step_byte y → ⊥) → Adds m l a (note x o k w) m₁ → Still m m₁ y l o k
  still_added x y ne d = record {
    keeps = λ b v e. adds_keeps d l b (note y o k v) e;
    only = λ b v e. ⊎_elim (λ (i : m.heard l b (note y o k v) ≡ true). i) (λ i. absurd (ne (steps i.2))) (adds_cases d l b (note y o k v) e);
  }

  more_added : (x : Step) → Adds m l a (note x o k w) m₁ → More m m₁ x l o k a w
  more_added x d = record {
    keeps = λ b v e. adds_keeps d l b (note x o k v) e;
    here = adds_it d;
    only = λ b v e. ⊎_elim inl (λ (i : (l ≡ l) × (a ≡ b) × (note x o k w ≡ note x o k v)). inr (i.1, words i.2)) (adds_cases d l b (note x o k v) e);
  }

  -- the tables once the note was heard, before anything is said
  heard_echo : Step → ℕ → Option ℕ
  heard_echo Send = t.echo
  heard_echo Echo = first a w t.echo
  heard_echo Ready = t.echo

  echo_heard_matches : (x : Step) → (is_send x ≡ false → a ≡ l → ⊥) → Adds m l a (note x o k w) m₁ → Matches m Echo l o k t.echo → Matches m₁ Echo l o k (heard_echo x)
  unfolding heard_echo
  echo_heard_matches Send apart d h = matches_still h (still_added Send Echo (λ e. omega arith) d)
  echo_heard_matches Echo apart d h = matches_more h (more_added Echo d) (λ e. absurd (apart refl e))
  echo_heard_matches Ready apart d h = matches_still h (still_added Ready Echo (λ e. omega arith) d)

  ready_heard_matches : (x : Step) → (is_send x ≡ false → a ≡ l → ⊥) → Adds m l a (note x o k w) m₁ → Matches m Ready l o k t.ready → Matches m₁ Ready l o k (ready_heard n f l a w t x)
  ready_heard_matches Send apart d h = matches_still h (still_added Send Ready (λ e. omega arith) d)
  ready_heard_matches Echo apart d h = matches_still h (still_added Echo Ready (λ e. omega arith) d)
  ready_heard_matches Ready apart d h = matches_more h (more_added Ready d) (λ e. absurd (apart refl e))

  said_echo : (e r : Bool) (F : ℕ → Option ℕ) → Spoken g m₁ l e r o k w m' → (e ≡ true → present (F l) ≡ false) → Matches m₁ Echo l o k F → Matches m' Echo l o k (cond e (first l w F) F)
  said_echo true r F sp new h = matches_more h
      (record {
        keeps = λ b v i. sp.keeps l b (note Echo o k v) i;
        here = sp.echo refl;
        only = λ b v i. ⊎_elim inl
            (λ (j : (l ≡ l) × (l ≡ b) × Own true r o k w (note Echo o k v)). ⊎_elim (λ (y : (true ≡ true) × (note Echo o k w ≡ note Echo o k v)). inr (j.1, words y.1)) (λ y. absurd (echo≢ready (sym (steps y.1)))) j.2)
            (sp.only l b (note Echo o k v) i);
      })
      (λ _. new refl)
  said_echo false r F sp new h = matches_still h
      (record {
        keeps = λ b v i. sp.keeps l b (note Echo o k v) i;
        only = λ b v i. ⊎_elim (λ (j : m₁.heard l b (note Echo o k v) ≡ true). j)
            (λ j. ⊎_elim (λ (y : (false ≡ true) × (note Echo o k w ≡ note Echo o k v)). absurd (true≢false (sym y.0))) (λ y. absurd (echo≢ready (sym (steps y.1)))) j.2)
            (sp.only l b (note Echo o k v) i);
      })

  said_ready : (e r : Bool) (F : ℕ → Option ℕ) → Spoken g m₁ l e r o k w m' → (r ≡ true → present (F l) ≡ false) → Matches m₁ Ready l o k F → Matches m' Ready l o k (cond r (first l w F) F)
  said_ready e true F sp new h = matches_more h
      (record {
        keeps = λ b v i. sp.keeps l b (note Ready o k v) i;
        here = sp.ready refl;
        only = λ b v i. ⊎_elim inl
            (λ (j : (l ≡ l) × (l ≡ b) × Own e true o k w (note Ready o k v)). ⊎_elim (λ (y : (e ≡ true) × (note Echo o k w ≡ note Ready o k v)). absurd (echo≢ready (steps y.1))) (λ y. inr (j.1, words y.1)) j.2)
            (sp.only l b (note Ready o k v) i);
      })
      (λ _. new refl)
  said_ready e false F sp new h = matches_still h
      (record {
        keeps = λ b v i. sp.keeps l b (note Ready o k v) i;
        only = λ b v i. ⊎_elim (λ (j : m₁.heard l b (note Ready o k v) ≡ true). j)
            (λ j. ⊎_elim (λ (y : (e ≡ true) × (note Echo o k w ≡ note Ready o k v)). absurd (echo≢ready (steps y.1))) (λ y. absurd (true≢false (sym y.0))) j.2)
            (sp.only l b (note Ready o k v) i);
      })

  -- a craft echoes what was sent
  sent_it : (x : Step) → (is_send x ≡ true → a ≡ o) → says_echo n f l a w t x ≡ true → Adds m l a (note x o k w) m₁ → m₁.heard l o (note Send o k w) ≡ true
  sent_it Send source e d = ap (λ (i : ℕ). m₁.heard l i (note Send o k w)) (sym (source refl)) ∙ adds_it d
  sent_it Echo source e d = absurd (true≢false (sym e))
  sent_it Ready source e d = absurd (true≢false (sym e))

  -- once a Send was heard, it has echoed
  sent_echoed : (x : Step) → step_byte x ≡ 1 → present (echo_after n f l a w t x l) ≡ true
  sent_echoed Send e = ⊎_elim
      (λ (i : says_echo n f l a w t Send ≡ true).
      ap (λ (F : ℕ → Option ℕ). present (F l)) (cond-true (says_echo n f l a w t Send) (first l w t.echo) t.echo i) ∙ first_there l w t.echo)
      (λ i. grows_present (grows_echo n f l a w t Send) l (not-false (present (t.echo l)) i))
      (cases_Bool (says_echo n f l a w t Send))
  sent_echoed Echo e = absurd (omega arith)
  sent_echoed Ready e = absurd (omega arith)

  module _ (x : Step) (apart : is_send x ≡ false → a ≡ l → ⊥) (source : is_send x ≡ true → a ≡ o) (d : Adds m l a (note x o k w) m₁)
      (sp : Spoken g m₁ l (says_echo n f l a w t x) (says_ready n f l a w t x) o k w m') (h : Entry n f m t l o k) where
    cause_after : (v : ℕ) → m'.heard l l (note Echo o k v) ≡ true → m'.heard l o (note Send o k v) ≡ true
    cause_after v e = ⊎_elim
        (λ (i : m₁.heard l l (note Echo o k v) ≡ true). sp.keeps l o (note Send o k v) (⊎_elim
        (λ (j : m.heard l l (note Echo o k v) ≡ true). adds_keeps d l o (note Send o k v) (h.cause v j))
        (λ j. absurd (apart (no_send x (λ y. echo≢send (sym (steps j.2) ∙ y))) j.1))
        (adds_cases d l l (note Echo o k v) i)))
        (λ i. ⊎_elim
        (λ (j : (says_echo n f l a w t x ≡ true) × (note Echo o k w ≡ note Echo o k v)).
        sp.keeps l o (note Send o k v) (ap (λ (z : ℕ). m₁.heard l o (note Send o k z)) (sym (words j.1)) ∙ sent_it x source j.0 d))
        (λ j. absurd (echo≢ready (sym (steps j.1))))
        i.2)
        (sp.only l l (note Echo o k v) e)

    echoed_after : (v : ℕ) → m'.heard l o (note Send o k v) ≡ true → present (echo_after n f l a w t x l) ≡ true
    echoed_after v e = ⊎_elim
        (λ (i : m₁.heard l o (note Send o k v) ≡ true). ⊎_elim
        (λ (j : m.heard l o (note Send o k v) ≡ true). grows_present (grows_echo n f l a w t x) l (h.echoed v j))
        (λ j. sent_echoed x (steps j.2))
        (adds_cases d l o (note Send o k v) i))
        (λ i. ⊎_elim
        (λ (j : (says_echo n f l a w t x ≡ true) × (note Echo o k w ≡ note Send o k v)). absurd (echo≢send (steps j.1)))
        (λ j. absurd (ready≢send (steps j.1)))
        i.2)
        (sp.only l o (note Send o k v) e)

    ready_matches : Matches m' Ready l o k (ready_after n f l a w t x)
    ready_matches = said_ready _ (says_ready n f l a w t x) (ready_heard n f l a w t x) sp
        (λ e. not-true (present (ready_heard n f l a w t x l)) (and_parts (ready_due n f l a w t x) _ e).1)
        (ready_heard_matches x apart d h.ready)

  echo_matches : (x : Step) → (is_send x ≡ false → a ≡ l → ⊥) → Adds m l a (note x o k w) m₁
      → Spoken g m₁ l (says_echo n f l a w t x) (says_ready n f l a w t x) o k w m' → Matches m Echo l o k t.echo → Matches m' Echo l o k (echo_after n f l a w t x)
  unfolding heard_echo
  echo_matches Send apart d sp h = said_echo (says_echo n f l a w t Send) _ t.echo sp (λ e. not-true (present (t.echo l)) e) (echo_heard_matches Send apart d h)
  echo_matches Echo apart d sp h = said_echo false _ (first a w t.echo) sp (λ e. absurd (true≢false (sym e))) (echo_heard_matches Echo apart d h)
  echo_matches Ready apart d sp h = said_echo false _ t.echo sp (λ e. absurd (true≢false (sym e))) (echo_heard_matches Ready apart d h)

  pub entry_turn : (x : Step) → (is_send x ≡ false → a ≡ l → ⊥) → (is_send x ≡ true → a ≡ o) → Adds m l a (note x o k w) m₁
      → Spoken g m₁ l (says_echo n f l a w t x) (says_ready n f l a w t x) o k w m' → Entry n f m t l o k → Entry n f m' (hear n f l a w t x).after l o k
  unfolding hear
  entry_turn x apart source d sp h = record {
    settled = settled_after n f l a w t x h.settled;
    counted = counted_after n f l a w t x h.counted;
    echo = echo_matches x apart d sp h.echo;
    ready = ready_matches x apart source d sp h;
    cause = cause_after x apart source d sp h;
    echoed = echoed_after x apart source d sp h;
  }
