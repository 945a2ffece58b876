-- Which of several causes is answered, over any list of causes. Assumes nothing.
--   passed          where none is answered, the first does not hold, and none of the others is answered
--   Clear           no cause of a list holds
--   clear           where none is answered, none holds
--   accepts         where none holds, none is answered
--   clear_rest      causes behind others
--   clear-append    causes of two lists, one after the other
--   refused_none    where both answer nothing, each does
--   refused_front   what the first list answers, both answer
--   refused_back    where the first answers nothing, both answer what the second does
--   refused_parts   what both answer, the first does; or it answers nothing, and the second does
use Rattle.std.proofs.Common.{◌≡◌, ℕ, Bool, true, false, cond, ◌⊎◌, List, [], ◌∷◌, ◌++◌, Some, None, Option, sym, refl, ◌∙◌, inl, inr, ⊎_elim, arith}
use Rattle.std.proofs.lemmas.Bool.{cases_Bool, cond-true, cond-false}
use Rattle.std.proofs.lemmas.Option.{none-some}
use Rattle.refusals.specs.Refusals.{Told, Cause, refusal}

pub passed : {A : Type 0} (b : Bool) (t : A) (o : Option A) → cond b (Some t) o ≡ None → (b ≡ false) × (o ≡ None)
passed true t o h = let z : ◌≡◌ {A = ℕ} 0 1 = cc in absurd (omega arith)
passed false t o h = (refl, h)

abbrev pub Clear : List Cause → Type 0
Clear [] = Unit {0}
Clear (c ∷ cs) = (c.holds ≡ false) × Clear cs

pub clear : (cs : List Cause) → refusal cs ≡ None → Clear cs
clear [] e = tt
clear (c ∷ cs) e = let h = passed c.holds c.tells (refusal cs) e in (h.0, clear cs h.1)

pub accepts : (cs : List Cause) → Clear cs → refusal cs ≡ None
accepts [] h = refl
accepts (c ∷ cs) h = cond-false c.holds (Some c.tells) (refusal cs) h.0 ∙ accepts cs h.1

pub clear_rest : (cs ds : List Cause) → Clear (cs ++ ds) → Clear cs × Clear ds
clear_rest [] ds h = (tt, h)
clear_rest (c ∷ cs) ds h = let r = clear_rest cs ds h.1 in ((h.0, r.0), r.1)

pub clear-append : (cs ds : List Cause) → Clear cs → Clear ds → Clear (cs ++ ds)
clear-append [] ds h i = i
clear-append (c ∷ cs) ds h i = (h.0, clear-append cs ds h.1 i)

pub refused_none : (cs ds : List Cause) → refusal (cs ++ ds) ≡ None → (refusal cs ≡ None) × (refusal ds ≡ None)
refused_none [] ds h = (refl, h)
refused_none (c ∷ cs) ds h =
    let p = passed c.holds c.tells (refusal (cs ++ ds)) h in
    let q = refused_none cs ds p.1 in
    (cond-false c.holds (Some c.tells) (refusal cs) p.0 ∙ q.0, q.1)

pub refused_front : (cs ds : List Cause) (v : Told) → refusal cs ≡ Some v → refusal (cs ++ ds) ≡ Some v
refused_front [] ds v e = absurd (none-some v e)
refused_front (c ∷ cs) ds v e = ⊎_elim
    (λ (i : c.holds ≡ true). cond-true c.holds (Some c.tells) (refusal (cs ++ ds)) i ∙ sym (cond-true c.holds (Some c.tells) (refusal cs) i) ∙ e)
    (λ i. cond-false c.holds (Some c.tells) (refusal (cs ++ ds)) i ∙ refused_front cs ds v (sym (cond-false c.holds (Some c.tells) (refusal cs) i) ∙ e))
    (cases_Bool c.holds)

pub refused_back : (cs ds : List Cause) → refusal cs ≡ None → refusal (cs ++ ds) ≡ refusal ds
refused_back [] ds e = refl
refused_back (c ∷ cs) ds e =
    let h = passed c.holds c.tells (refusal cs) e in
    cond-false c.holds (Some c.tells) (refusal (cs ++ ds)) h.0 ∙ refused_back cs ds h.1

pub refused_parts : (cs ds : List Cause) (v : Told) → refusal (cs ++ ds) ≡ Some v → (refusal cs ≡ Some v) ⊎ ((refusal cs ≡ None) × (refusal ds ≡ Some v))
refused_parts [] ds v e = inr (refl, e)
refused_parts (c ∷ cs) ds v e = ⊎_elim
    (λ (i : c.holds ≡ true). inl (cond-true c.holds (Some c.tells) (refusal cs) i ∙ sym (cond-true c.holds (Some c.tells) (refusal (cs ++ ds)) i) ∙ e))
    (λ i.
    let past = cond-false c.holds (Some c.tells) (refusal cs) i in
    ⊎_elim
    (λ (h : refusal cs ≡ Some v). inl (past ∙ h))
    (λ h. inr (past ∙ h.0, h.1))
    (refused_parts cs ds v (sym (cond-false c.holds (Some c.tells) (refusal (cs ++ ds)) i) ∙ e)))
    (cases_Bool c.holds)
