-- What each call adds to what is heard. Assumes nothing.
--   carry_answers, say_adds, meddle_adds_nothing   a carry, a say and a meddle
use Rattle.std.proofs.Common.{◌≡◌, ℕ, Bool, true, false, ◌&&◌, ◌||◌, eqb, List, [], ◌∷◌, sym, refl, ap, ◌∙◌, subst, ⊎_elim}
use Rattle.std.proofs.Math.Bool.{or-false}
use Rattle.std.proofs.lemmas.Bool.{both_ways, cases_Bool, not-false, or_right}
use Rattle.frames.specs.declared.notes.Note.{Note}
use Rattle.links.specs.declared.entries.Entry.{Entry}
use Rattle.pathsets.specs.Outcomes.{is_heard}
use Rattle.pathsets.proofs.Families.{covering_all, holds_has}
use Rattle.pathsets.proofs.HittingLaws.{heard_empty, hittable_decides}
use Rattle.pathsets.specs.Families.{holds}
use Rattle.pathsets.specs.Keys.{same_key, sets_of}
use Rattle.pathsets.specs.Steps.{hears, path}
use Rattle.relaying.proofs.Changes.{Changed, at_key, cases_change}
use Rattle.relaying.proofs.KeptSay.{said_change}
use Rattle.relaying.proofs.Laws.{kept_reached}
use Rattle.relaying.proofs.Taken.{Dropped, Took, carried}
use Rattle.relaying.specs.Invariants.{Kept}
use Rattle.relaying.specs.Laws.{Adds, Answers, CarryAnswers, Charted, MeddleAddsNothing, SayAdds}
use Rattle.relaying.specs.States.{Carries, Setting, State, heard, held, stepped_at}

-- where the empty set alone is held at one key, exactly that is heard more
adds_empty : (s s' : State) (p a : ℕ) (x : Note) → Changed (held s) (held s') p a x (0 ∷ []) → Adds s p a x s'
adds_empty s s' p a x ch b c y = ⊎_elim
    (λ (k : ((eqb b p && same_key c y a x) ≡ true) × (held s' b c y ≡ 0 ∷ [])).
    ap (holds 0) k.1 ∙ sym (or_right (heard s b c y) (eqb b p && same_key c y a x) k.0))
    (λ k. ap (holds 0) k.1 ∙ sym (ap (λ (t : Bool). heard s b c y || t) k.0 ∙ or-false (heard s b c y)))
    (cases_change (held s) (held s') p a x (0 ∷ []) ch b c y)

-- sets that few craft meet are not empty
no_empty : (f : ℕ) (ss : List ℕ) → hears f ss ≡ false → holds 0 ss ≡ false
no_empty f ss q = ⊎_elim
    (λ (h : holds 0 ss ≡ true). let m = (hittable_decides f ss).0 (not-false _ q) in absurd (heard_empty m.0 ss (holds_has 0 ss h) m.2))
    (λ h. h) (cases_Bool (holds 0 ss))

module _ (g : Setting) (s : State) (k : ℕ) (e : Entry) (s' : State) (ct : Charted g.n g.chart) (kp : Kept g s) (c : Carries g s k e s') where
  answers_dropped : Dropped g s k e s' → Answers g s e s'
  answers_dropped dr =
      let never : is_heard (stepped_at g s e).out ≡ true → ⊥ = both_ways (is_heard (stepped_at g s e).out) dr.quiet in
      record {
        new = λ h. absurd (never h);
        sound = λ h. absurd (never h);
        labels = λ h. absurd (never h);
        different = λ h _. never h;
        adds = λ h. absurd (never h);
        nothing = λ _ p b y. ap (λ (rs : List _). holds 0 (sets_of b y rs)) (dr.same p);
      }

  answers_taken : Took g s k e s' → Answers g s e s'
  answers_taken tk = record {
    new = λ _. unheard;
    sound = λ _. tk.fits.sound;
    labels = λ _. (tk.fits.craft, tk.fits.author);
    different = λ _ h. tk.fits.other (sym h);
    adds = λ h. ⊎_elim
        (λ (w : (is_heard (stepped_at g s e).out ≡ true) × (tk.F ≡ 0 ∷ [])).
        adds_empty s s' e.to e.frame.author e.frame.note (subst (Changed (held s) (held s') e.to e.frame.author e.frame.note) w.1 tk.changed))
        (λ w. absurd (both_ways (is_heard (stepped_at g s e).out) w.0 h)) tk.answer;
    nothing = λ h. ⊎_elim
        (λ (w : (is_heard (stepped_at g s e).out ≡ true) × (tk.F ≡ 0 ∷ [])). absurd (both_ways (is_heard (stepped_at g s e).out) h w.0))
        (λ w. at_key (held s) (held s') e.to e.frame.author e.frame.note tk.F tk.changed (λ b d y L. holds 0 L ≡ heard s b d y)
        (no_empty g.f tk.F w.2 ∙ sym unheard) (λ _ _ _. refl)) tk.answer;
  }
    where
      -- p held no set within the path
      unheard : heard s e.to e.frame.author e.frame.note ≡ false
      unheard = ⊎_elim
          (λ (h : heard s e.to e.frame.author e.frame.note ≡ true).
          absurd (both_ways _ tk.bare (covering_all (held s e.to e.frame.author e.frame.note) (path e.from e.frame.author e.frame.set) h)))
          (λ h. h) (cases_Bool (heard s e.to e.frame.author e.frame.note))

pub carry_answers : CarryAnswers
carry_answers g s s' k e ct r c =
    let kp = kept_reached g s ct r in ⊎_elim (answers_dropped g s k e s' ct kp c) (answers_taken g s k e s' ct kp c) (carried g s k e s' c)

pub say_adds : SayAdds
say_adds g s s' a x ct r sy = adds_empty s s' a a x (said_change g s a x s' ct (kept_reached g s ct r) sy)

pub meddle_adds_nothing : MeddleAddsNothing
meddle_adds_nothing g s s' c to m md p b y = ap (λ (rs : List _). holds 0 (sets_of b y rs)) (md.shelf p)
