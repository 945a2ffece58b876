-- One turn of one craft: thresholds are acted upon, and a delivery has its Readies. Assumes nothing.
--   Settled          what is due at p has been done: a quorum of Echoes or f + 1 Readies for one word, and it has readied; 2f + 1 Readies, and it has delivered
--   Counted          what was delivered has 2f + 1 Readies
--   grows_echo, grows_heard, grows_own, grows_ready
--                    a turn adds only votes for the word that was heard
--   settled_after, counted_after
--                    a turn keeps both: only the count for the word just heard can have grown
--   delivery_keeps   a word that was delivered stays
--   delivery_made    a turn that delivers leaves the word heard
--   delivery_cases   a word delivered now was delivered by this turn, or before
use Rattle.std.proofs.Common.{◌≡◌, ℕ, ◌+◌, ◌*◌, ◌≤◌, true, false, cond, leb, ◌⊎◌, Some, Option, sym, refl, ap, ◌∙◌, subst, inl, inr, ⊎_elim, arith}
use Rattle.std.proofs.lemmas.Bool.{cases_Bool, cases_eq, cond-true, cond-false, cond_both, le-leb, leb-true, and_from, and_parts, not-true, not_from_false, both_ways}
use Rattle.sets.specs.Quorums.{quorum}
use Rattle.frames.specs.declared.notes.Step.{Step}
use Rattle.frames.specs.declared.notes.Step.TheVariants.{Send, Echo, Ready}
use Rattle.agreement.specs.Votes.{Tally, present, first, backers, hear, says_echo, echo_after, ready_heard, ready_due, says_ready, ready_after, heard_ready, delivery_due}
use Rattle.agreement.proofs.FirstVotes.{Grows, grows_same, grows_first, grows_then, grows_if, grows_present, backers_more, backers_other, first_there, present_some, same_some}

-- what is due at p has been done
pub record Settled (n f p : ℕ) (t : Tally) : Type 0 where
  pub by_echoes : (v : ℕ) → quorum n f ≤ backers n t.echo v → present (t.ready p) ≡ true
  pub by_readies : (v : ℕ) → f + 1 ≤ backers n t.ready v → present (t.ready p) ≡ true
  pub by_enough : (v : ℕ) → 2 * f + 1 ≤ backers n t.ready v → present t.delivered ≡ true

-- what was delivered has its Readies
abbrev pub Counted : ℕ → ℕ → Tally → Type 0
Counted n f t = (v : ℕ) → t.delivered ≡ Some v → 2 * f + 1 ≤ backers n t.ready v

module _ (n f p a w : ℕ) (t : Tally) where
  pub grows_echo : (x : Step) → Grows w t.echo (echo_after n f p a w t x)
  grows_echo Send = grows_if _ (grows_first p w t.echo)
  grows_echo Echo = grows_first a w t.echo
  grows_echo Ready = grows_same w t.echo

  pub grows_heard : (x : Step) → Grows w t.ready (ready_heard n f p a w t x)
  grows_heard Send = grows_same w t.ready
  grows_heard Echo = grows_same w t.ready
  grows_heard Ready = grows_first a w t.ready

  pub grows_own : (x : Step) → Grows w (ready_heard n f p a w t x) (ready_after n f p a w t x)
  grows_own x = grows_if _ (grows_first p w (ready_heard n f p a w t x))

  pub grows_ready : (x : Step) → Grows w t.ready (ready_after n f p a w t x)
  grows_ready x = grows_then (grows_heard x) (grows_own x)

  -- a Ready that is due is there afterwards
  due_there : (x : Step) → ready_due n f p a w t x ≡ true → present (ready_after n f p a w t x p) ≡ true
  due_there x e = ⊎_elim
      (λ (h : present (ready_heard n f p a w t x p) ≡ true). grows_present (grows_own x) p h)
      (λ h.
      let r = and_from (ready_due n f p a w t x) _ e (not_from_false (present (ready_heard n f p a w t x p)) h) in
      ap (λ (F : ℕ → Option ℕ). present (F p)) (cond-true (says_ready n f p a w t x) (first p w (ready_heard n f p a w t x)) (ready_heard n f p a w t x) r)
      ∙ first_there p w (ready_heard n f p a w t x))
      (cases_Bool (present (ready_heard n f p a w t x p)))

  -- a Ready said is there afterwards
  pub said_there : (x : Step) → says_ready n f p a w t x ≡ true → present (ready_after n f p a w t x p) ≡ true
  said_there x e = due_there x (and_parts (ready_due n f p a w t x) _ e).0

  -- where none was said, the Readies are those heard
  not_said : (x : Step) → says_ready n f p a w t x ≡ false → ready_after n f p a w t x ≡ ready_heard n f p a w t x
  not_said x e = cond-false (says_ready n f p a w t x) (first p w (ready_heard n f p a w t x)) (ready_heard n f p a w t x) e

  pub delivered_after : Step → Option ℕ
  delivered_after x = cond (delivery_due n f p a w t x) (Some w) t.delivered

  enough_there : (x : Step) → heard_ready n f p a w t x ≡ true → 2 * f + 1 ≤ backers n (ready_after n f p a w t x) w → present (delivered_after x) ≡ true
  unfolding delivered_after
  enough_there x e h = ⊎_elim
      (λ (d : present t.delivered ≡ true). cond_both (delivery_due n f p a w t x) (Some w) t.delivered (λ z. present z ≡ true) (λ _. refl) (λ _. d))
      (λ d. ap present (cond-true (delivery_due n f p a w t x) (Some w) t.delivered
      (and_from (heard_ready n f p a w t x) _ e (and_from (leb (2 * f + 1) (backers n (ready_after n f p a w t x) w)) _ (le-leb _ _ h) (not_from_false (present t.delivered) d)))))
      (cases_Bool (present t.delivered))

  module _ (old : Settled n f p t) where
    -- of w itself
    w_echoes : (x : Step) → quorum n f ≤ backers n (echo_after n f p a w t x) w → present (ready_after n f p a w t x p) ≡ true
    w_echoes Send h = ⊎_elim
        (λ (e : says_echo n f p a w t Send ≡ true). due_there Send (and_from (says_echo n f p a w t Send) _ e (le-leb _ _ h)))
        (λ e. grows_present (grows_ready Send) p (old.by_echoes w (subst (λ (F : ℕ → Option ℕ). quorum n f ≤ backers n F w) (cond-false (says_echo n f p a w t Send) (first p w t.echo) t.echo e) h)))
        (cases_Bool (says_echo n f p a w t Send))
    w_echoes Echo h = due_there Echo (le-leb _ _ h)
    w_echoes Ready h = grows_present (grows_ready Ready) p (old.by_echoes w h)

    w_readies : (x : Step) → says_ready n f p a w t x ≡ false → f + 1 ≤ backers n (ready_heard n f p a w t x) w → present (ready_after n f p a w t x p) ≡ true
    w_readies Send e h = grows_present (grows_ready Send) p (old.by_readies w h)
    w_readies Echo e h = grows_present (grows_ready Echo) p (old.by_readies w h)
    w_readies Ready e h = due_there Ready (le-leb _ _ h)

    w_enough : (x : Step) → says_ready n f p a w t x ≡ false → 2 * f + 1 ≤ backers n (ready_after n f p a w t x) w → present (delivered_after x) ≡ true
    unfolding delivered_after
    w_enough Send e h =
        cond_both (delivery_due n f p a w t Send) (Some w) t.delivered (λ z. present z ≡ true) (λ _. refl) (λ _. old.by_enough w (subst (λ (F : ℕ → Option ℕ). 2 * f + 1 ≤ backers n F w) (not_said Send e) h))
    w_enough Echo e h =
        cond_both (delivery_due n f p a w t Echo) (Some w) t.delivered (λ z. present z ≡ true) (λ _. refl) (λ _. old.by_enough w (subst (λ (F : ℕ → Option ℕ). 2 * f + 1 ≤ backers n F w) (not_said Echo e) h))
    w_enough Ready e h = enough_there Ready refl h

    said_heard : (x : Step) → says_ready n f p a w t x ≡ true → heard_ready n f p a w t x ≡ true
    said_heard Send e = e
    said_heard Echo e = e
    said_heard Ready e = refl

    kept_delivered : (x : Step) → present t.delivered ≡ true → present (delivered_after x) ≡ true
    unfolding delivered_after
    kept_delivered x e = cond_both (delivery_due n f p a w t x) (Some w) t.delivered (λ z. present z ≡ true) (λ _. refl) (λ _. e)

    at_w : (P : ℕ → Type 0) (v : ℕ) → v ≡ w → P w → P v
    at_w P v q h = subst P (sym q) h

    settled_by : (x : Step) → Settled n f p (record { echo = echo_after n f p a w t x; ready = ready_after n f p a w t x; delivered = delivered_after x })
    settled_by x = record {
      by_echoes = λ v h. ⊎_elim
          (λ (q : v ≡ w). w_echoes x (subst (λ (u : ℕ). quorum n f ≤ backers n (echo_after n f p a w t x) u) q h))
          (λ ne. grows_present (grows_ready x) p (old.by_echoes v (omega (arith, backers_other n t.echo (echo_after n f p a w t x) v (grows_echo x) ne, h))))
          (cases_eq v w);
      by_readies = λ v h. ⊎_elim
          (λ (q : v ≡ w). ⊎_elim
          (λ (e : says_ready n f p a w t x ≡ true). said_there x e)
          (λ e. w_readies x e (subst (λ (F : ℕ → Option ℕ). f + 1 ≤ backers n F w) (not_said x e) (subst (λ (u : ℕ). f + 1 ≤ backers n (ready_after n f p a w t x) u) q h)))
          (cases_Bool (says_ready n f p a w t x)))
          (λ ne. grows_present (grows_ready x) p (old.by_readies v (omega (arith, backers_other n t.ready (ready_after n f p a w t x) v (grows_ready x) ne, h))))
          (cases_eq v w);
      by_enough = λ v h. ⊎_elim
          (λ (q : v ≡ w).
          let k = subst (λ (u : ℕ). 2 * f + 1 ≤ backers n (ready_after n f p a w t x) u) q h in
          ⊎_elim (λ (e : says_ready n f p a w t x ≡ true). enough_there x (said_heard x e) k) (λ e. w_enough x e k) (cases_Bool (says_ready n f p a w t x)))
          (λ ne. kept_delivered x (old.by_enough v (omega (arith, backers_other n t.ready (ready_after n f p a w t x) v (grows_ready x) ne, h))))
          (cases_eq v w);
    }

  pub settled_after : (x : Step) → Settled n f p t → Settled n f p (hear n f p a w t x).after
  unfolding hear delivered_after
  settled_after x old = settled_by old x

  counted_by : (x : Step) (v : ℕ) → Counted n f t → delivered_after x ≡ Some v → 2 * f + 1 ≤ backers n (ready_after n f p a w t x) v
  unfolding delivered_after
  counted_by x v old e = ⊎_elim
      (λ (d : delivery_due n f p a w t x ≡ true).
      let q : w ≡ v = same_some {o = Some w} refl (sym (cond-true (delivery_due n f p a w t x) (Some w) t.delivered d) ∙ e) in
      let l = leb-true (2 * f + 1) (backers n (ready_after n f p a w t x) w) (and_parts (leb (2 * f + 1) (backers n (ready_after n f p a w t x) w)) _ (and_parts (heard_ready n f p a w t x) _ d).1).0 in
      subst (λ (u : ℕ). 2 * f + 1 ≤ backers n (ready_after n f p a w t x) u) q l)
      (λ d. let o = old v (sym (cond-false (delivery_due n f p a w t x) (Some w) t.delivered d) ∙ e) in
      omega (arith, o, backers_more n t.ready (ready_after n f p a w t x) v (grows_ready x)))
      (cases_Bool (delivery_due n f p a w t x))

  pub counted_after : (x : Step) → Counted n f t → Counted n f (hear n f p a w t x).after
  unfolding hear delivered_after
  counted_after x old v e = counted_by x v old e

  -- ---- deliveries

  pub delivery_keeps : (x : Step) (v : ℕ) → t.delivered ≡ Some v → (hear n f p a w t x).after.delivered ≡ Some v
  unfolding hear
  delivery_keeps x v e = ⊎_elim
      (λ (d : delivery_due n f p a w t x ≡ true).
      absurd (both_ways (present t.delivered) (not-true (present t.delivered) (and_parts (leb (2 * f + 1) (backers n (ready_after n f p a w t x) w)) _ (and_parts (heard_ready n f p a w t x) _ d).1).1) (present_some e)))
      (λ d. cond-false (delivery_due n f p a w t x) (Some w) t.delivered d ∙ e)
      (cases_Bool (delivery_due n f p a w t x))

  pub delivery_made : (x : Step) → (hear n f p a w t x).delivers ≡ true → (hear n f p a w t x).after.delivered ≡ Some w
  unfolding hear
  delivery_made x d = cond-true (delivery_due n f p a w t x) (Some w) t.delivered d

  pub delivery_cases : (x : Step) (v : ℕ) → (hear n f p a w t x).after.delivered ≡ Some v → (((hear n f p a w t x).delivers ≡ true) × (w ≡ v)) ⊎ (t.delivered ≡ Some v)
  unfolding hear
  delivery_cases x v e = ⊎_elim
      (λ (d : delivery_due n f p a w t x ≡ true). inl (d, same_some {o = Some w} refl (sym (cond-true (delivery_due n f p a w t x) (Some w) t.delivered d) ∙ e)))
      (λ d. inr (sym (cond-false (delivery_due n f p a w t x) (Some w) t.delivered d) ∙ e))
      (cases_Bool (delivery_due n f p a w t x))
