-- Says and carries one after the other, over any carrier. Assumes nothing.
--   Onward    n, f, the chart and who is astray are as they were, what was heard still is, and the toil fell by r at least
--   Carried   r carries of the frame at index 0, none refused, lead from m to m'
--   Settled   what r such carries leave, and if r is fewer than the budget, nothing waits or there is no room
--   ToldAll   a note told: it was said, what then waited was settled, and whether nothing waits is answered;
--             then each craft that is not astray heard it, if its author is not
--   Tells     so where the say is accepted; where it is refused, nothing changes. g is the most that one say adds to the toil
--   CarriedBy   r carries of the frame at index 0 lead from one carrier to another, by the carrier's own steps, which name the frame that is taken:
--               the meaning of a carrier alone does not, since it counts what waits and no more
--   SettledBy   r such carries, and after them none, or one within the budget that is refused
--   ToldBy      a say by the carrier's own step and then, where it is accepted, such carries within the budget; they are those that settle what waits
use Rattle.std.specs.Prelude.{◌≡◌, ℕ, zero, suc, ◌+◌, ◌<◌, ◌≤◌, Bool, true, ◌⊎◌, ◌++◌, Some, None, Ok, Err, Option, Result, ◌==◌}
use Rattle.refusals.specs.declared.Fault.{Fault}
use Rattle.refusals.specs.Refusals.{refusal, told}
use Rattle.frames.specs.declared.notes.Note.{Note}
use Rattle.agreement.specs.Meanings.{Meaning, Honest}
use Rattle.agreement.specs.Carrying.{Fixed, Said, say_causes, spent}
use Rattle.carriers.specs.declared.heard.Heard.{Heard}
use Rattle.carriers.specs.Calls.{Carry}

pub record Onward (m : Meaning) (r : ℕ) (m' : Meaning) : Type 0 where
  pub fixed : Fixed m m'
  pub astray : m'.astray ≡ m.astray
  pub heard : (l a : ℕ) (t : Note) → m.heard l a t ≡ true → m'.heard l a t ≡ true
  pub toil : m'.toil + r ≤ m.toil

abbrev pub Carried : Meaning → ℕ → Meaning → Type 0
Carried m zero m' = m' ≡ m
Carried m (suc r) m' = (w : Meaning) × Carried m r w × ((t : Option Heard) × Carry w 0 (Ok t) m')

pub record Settled (m : Meaning) (budget r : ℕ) (m' : Meaning) : Type 0 where
  pub onward : Onward m r m'
  pub carried : Carried m r m'
  pub rest : r < budget → (m'.waiting ≡ 0) ⊎ (m'.spare ≡ 0)

pub record ToldAll (g : ℕ) (m : Meaning) (a : ℕ) (t : Note) (budget : ℕ) (rests : Bool) (m' : Meaning) : Type 0 where
  pub accepted : refusal (say_causes m a t ++ spent m) ≡ None
  pub after : Meaning
  pub said : Said g m a t after
  pub carries : ℕ
  pub within : carries ≤ budget
  pub settled : Settled after budget carries m'
  pub fixed : Fixed m m'
  pub astray : m'.astray ≡ m.astray
  pub answer : rests ≡ (m'.waiting == 0)
  pub heard : rests ≡ true → (l : ℕ) → Honest m' l → Honest m' a → m'.heard l a t ≡ true

abbrev pub Tells : ℕ → Meaning → ℕ → Note → ℕ → Result Bool Fault → Meaning → Type 0
Tells g m a t budget (Ok rests) m' = ToldAll g m a t budget rests m'
Tells g m a t budget (Err e) m' = (refusal (say_causes m a t ++ spent m) ≡ Some (told e)) × (m' ≡ m)

abbrev pub CarriedBy : {A : Type 0} → (A → ℕ → Result (Option Heard) Fault → A → Type 0) → A → ℕ → A → Type 0
CarriedBy carries c zero c' = c' ≡ c
CarriedBy {A} carries c (suc r) c' = (w : A) × CarriedBy carries c r w × ((t : Option Heard) × carries w 0 (Ok t) c')

abbrev pub SettledBy : {A : Type 0} → (A → ℕ → Result (Option Heard) Fault → A → Type 0) → A → ℕ → ℕ → A → Type 0
SettledBy {A} carries c budget r c' = (w : A) × CarriedBy carries c r w × ((c' ≡ w) ⊎ ((r < budget) × ((e : Fault) × carries w 0 (Err e) c')))

abbrev pub ToldBy : {A : Type 0} → (A → ℕ → Note → Result Unit Fault → A → Type 0) → (A → ℕ → Result (Option Heard) Fault → A → Type 0)
    → (A → ℕ → A → Type 0) → A → ℕ → Note → ℕ → Result Bool Fault → A → Type 0
ToldBy {A} says carries settles c a t budget (Ok rests) c' =
    (w : A) × ((u : Unit {0}) × says c a t (Ok u) w) × ((r : ℕ) × (r ≤ budget) × SettledBy carries w budget r c' × settles w r c')
ToldBy says carries settles c a t budget (Err e) c' = says c a t (Err e) c'
