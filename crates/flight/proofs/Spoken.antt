-- Notes said one after the other. Assumes nothing.
--   saying_then      some notes said, and then others
--   said_then        the same in the carrier's own relation
--   spoke_if         an Echo or a Ready on what was heard, if it is to be said, is not refused where there is room
--   said_if          the same in the carrier's own relation
--   spoken           a turn's Echo and Ready, where there is room for both
--   first_said       its Echo alone is not refused
--   said_both        both in the carrier's own relation
use Rattle.std.proofs.Common.{◌≡◌, ℕ, ◌+◌, ◌<◌, ◌≤◌, Bool, true, false, cond, List, [], ◌∷◌, ◌++◌, Some, None, Ok, Err, Option, Result, OnOk, sym, refl, ap, subst, ◌∙◌, arith}
use Rattle.std.proofs.lemmas.Option.{none-some}
use Rattle.refusals.specs.declared.Fault.{Fault}
use Rattle.frames.specs.declared.notes.Step.{Step}
use Rattle.frames.specs.declared.notes.Step.TheVariants.{Echo, Ready}
use Rattle.frames.specs.declared.notes.Note.{Note}
use Rattle.frames.specs.Notes.{is_send, sound, note}
use Rattle.agreement.specs.Meanings.{Meaning}
use Rattle.agreement.specs.Carrying.{Said}
use Rattle.agreement.specs.Flights.{Saying}
use Rattle.agreement.proofs.Room.{vote_accepted}
use Rattle.carriers.specs.Calls.{Say}
use Rattle.votes.specs.declared.stages.Move.{Move}
use Rattle.votes.specs.Moves.{echo_of, ready_of}
use Rattle.flight.specs.Speaking.{SaysIf, MaySpeak, said}
use Rattle.flight.specs.Exact.{SaidIf, SaidAll}

pub saying_then : (g : ℕ) (m m₁ m' : Meaning) (l : ℕ) (xs ys : List Note) → Saying g m l xs m₁ → Saying g m₁ l ys m' → Saying g m l (xs ++ ys) m'
saying_then g m m₁ m' l [] ys h k = subst (λ (z : Meaning). Saying g z l ys m') h k
saying_then g m m₁ m' l (x ∷ xs) ys h k = (h.0, h.1, saying_then g h.0 m₁ m' l xs ys h.2 k)

module _ {C : Type 0} (says : C → ℕ → Note → Result Unit Fault → C → Type 0) where
  pub said_then : (c c₁ c' : C) (l : ℕ) (xs ys : List Note) → SaidAll says c l xs c₁ → SaidAll says c₁ l ys c' → SaidAll says c l (xs ++ ys) c'
  said_then c c₁ c' l [] ys h k = subst (λ (z : C). SaidAll says z l ys c') h k
  said_then c c₁ c' l (x ∷ xs) ys h k = (h.0, h.1, said_then h.0 c₁ c' l xs ys h.2 k)

  pub said_if : (b : Bool) (c c' : C) (l : ℕ) (x : Note) → SaidIf says c l (cond b (Some x) None) (Ok tt) c' → SaidAll says c l (cond b (x ∷ []) []) c'
  said_if true c c' l x h = (c', h, refl)
  said_if false c c' l x h = h.1

module _ (g : ℕ) (m m' : Meaning) (l a : ℕ) (t : Note) (x : Step) (other : is_send x ≡ false) (listener : l < m.n) (heard : sound m.n a t ≡ true) (room : 0 < m.spare) where
  said_one : (r : Result Unit Fault) → Say g m l (note x t.origin t.number t.content) r m' → (r ≡ Ok tt) × Said g m l (note x t.origin t.number t.content) m'
  said_one (Ok u) h = (refl, h.1)
  said_one (Err e) h = absurd (none-some _ (sym (vote_accepted m m a l t x refl listener heard other room) ∙ h.0))

  pub spoke_if : (b : Bool) (r : Result Unit Fault) → SaysIf g m l (cond b (Some (note x t.origin t.number t.content)) None) r m'
      → (r ≡ Ok tt) × Saying g m l (cond b (note x t.origin t.number t.content ∷ []) []) m' × (m'.n ≡ m.n) × (m.spare ≤ m'.spare + 1)
  spoke_if true r h = let s = said_one r h in (s.0, (m', s.1, refl), s.1.fixed.n, s.1.spare)
  spoke_if false r h = (h.0, h.1, ap (λ (z : Meaning). z.n) h.1, omega (arith, ap (λ (z : Meaning). z.spare) h.1))

-- what may be said by a turn is said
pub spoken : (g : ℕ) (m m₁ m' : Meaning) (u : Move) (l : ℕ) (t : Note) (o p : Option Note) (q r : Result Unit Fault) → MaySpeak m l t
    → o ≡ echo_of u t → p ≡ ready_of u t → SaysIf g m l o q m₁ → SaysIf g m₁ l p r m' → (q ≡ Ok tt) × (r ≡ Ok tt) × Saying g m l (said u t) m'
spoken g m m₁ m' u l t o p q r may eo ep first second =
    let a = spoke_if g m m₁ l may.author t Echo refl may.listener may.sound (omega (arith, may.room)) u.echoes q
    (subst (λ (z : Option Note). SaysIf g m l z q m₁) eo first) in
    let b = spoke_if g m₁ m' l may.author t Ready refl (subst (λ (n : ℕ). l < n) (sym a.2) may.listener)
    (subst (λ (n : ℕ). sound n may.author t ≡ true) (sym a.2) may.sound) (omega (arith, may.room, a.3)) u.readies r
    (subst (λ (z : Option Note). SaysIf g m₁ l z r m') ep second) in
    (a.0, b.0, saying_then g m m₁ m' l _ _ a.1 b.1)

not_both : {Y : Type 0} (r : Result Unit Fault) (e : Fault) → r ≡ Ok tt → r ≡ Err e → Y
not_both r e p q = absurd (let z : ◌≡◌ {A = ℕ} 0 1 = cc in omega arith)

-- the first is not refused
pub first_said : {Y : Type 0} (g : ℕ) (m m₁ : Meaning) (u : Move) (l : ℕ) (t : Note) (o : Option Note) (q : Result Unit Fault) (e : Fault) → MaySpeak m l t
    → o ≡ echo_of u t → SaysIf g m l o q m₁ → q ≡ Err e → Y
first_said g m m₁ u l t o q e may eo first refused =
    not_both q e (spoke_if g m m₁ l may.author t Echo refl may.listener may.sound (omega (arith, may.room)) u.echoes q
    (subst (λ (z : Option Note). SaysIf g m l z q m₁) eo first)).0 refused

pub said_both : {C : Type 0} (says : C → ℕ → Note → Result Unit Fault → C → Type 0) (c c₁ c' : C) (u : Move) (l : ℕ) (t : Note) (o p : Option Note) (r : Result Unit Fault)
    → o ≡ echo_of u t → p ≡ ready_of u t → SaidIf says c l o (Ok tt) c₁ → SaidIf says c₁ l p r c' → OnOk r (SaidAll says c l (said u t) c')
said_both says c c₁ c' u l t o p (Ok tt) eo ep first second =
    said_then says c c₁ c' l _ _ (said_if says u.echoes c c₁ l _ (subst (λ (z : Option Note). SaidIf says c l z (Ok tt) c₁) eo first))
    (said_if says u.readies c₁ c' l _ (subst (λ (z : Option Note). SaidIf says c₁ l z (Ok tt) c') ep second))
said_both says c c₁ c' u l t o p (Err e) eo ep first second = tt
