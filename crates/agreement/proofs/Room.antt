-- What an accepted call of a flight has passed; and its carrier then accepts what the flight asks of it. Assumes nothing.
--   say_accepted     a carrier with room accepts a say by a craft of a note that is sound by it
--   own_sound        a Send of one's own order is sound
--   vote_sound       anyone may say an Echo or a Ready on the order of a sound note
--   vote_accepted    so a carrier of the same size, with room, accepts that say
--   said_room, hears-room
--                    a say, and a carry, take at most one of the spare
--   order_passed     an accepted order: a craft, a number, a word of these kinds, not ordered before, three spare
--   carry_passed     an accepted carry: the carrier accepts it, and three are spare
--   meddle_passed    an accepted meddle: the carrier accepts it
--   meddle_few       and fewer than f others are astray
--   handed_on        where three are spare, what the carrier refuses the flight refuses by the same
--   too_tight        where the carrier has no cause but its 8 and fewer than three are spare, the flight refuses by 8
--   collect_passed   an accepted collect: two craft, a number, and something to collect
use Rattle.std.proofs.Common.{◌≡◌, ℕ, ◌+◌, ◌<◌, ◌≤◌, true, false, not, eqb, ltb, leb, List, [], ◌∷◌, ◌++◌, Some, None, sym, refl, ap, ◌∙◌, ⊎_elim, arith}
use Rattle.std.proofs.lemmas.Bool.{cond-true, and_from, and_parts, or_left, or_right, eq-eqb, ne_eqb, lt-leb, leb-false, ltb-false, lt-ltb, le-leb, not_from_true, not-false}
use Rattle.std.proofs.lemmas.Option.{none-some}
use Rattle.sets.specs.Sets.{others}
use Rattle.refusals.specs.Refusals.{Told, Cause, cause, refusal}
use Rattle.refusals.proofs.FirstCause.{clear, accepts, clear_rest, refused_front, refused_back, refused_parts}
use Rattle.matter.specs.Layouts.{Kind, word_refusal}
use Rattle.frames.specs.declared.notes.Step.{Step}
use Rattle.frames.specs.declared.notes.Step.TheVariants.{Send}
use Rattle.frames.specs.declared.notes.Note.{Note}
use Rattle.frames.specs.declared.notes.Frame.{Frame}
use Rattle.frames.specs.Notes.{is_send, sound, last_number, note}
use Rattle.agreement.specs.Meanings.{Meaning}
use Rattle.agreement.specs.Carrying.{Said, Hears, spent, say_causes, carry_causes, meddle_causes}
use Rattle.agreement.specs.Flights.{State, order, carry, meddle, collect, word_cause, tight, collectable, causes, Accepted}
use Rattle.agreement.proofs.Causes.{clear_word}

pub say_accepted : (m : Meaning) (a : ℕ) (t : Note) → a < m.n → sound m.n a t ≡ true → 0 < m.spare → refusal (say_causes m a t ++ spent m) ≡ None
say_accepted m a t h e r =
    accepts (say_causes m a t ++ spent m) (lt-leb m.n a h, (not_from_true (sound m.n a t) e, (ne_eqb m.spare 0 (λ q. omega arith), tt)))

pub own_sound : (n c k w : ℕ) → c < n → k ≤ last_number → sound n c (note Send c k w) ≡ true
own_sound n c k w h l =
    and_from (ltb c n) _ (lt-ltb c n h) (and_from (leb k last_number) _ (le-leb k last_number l) (or_right (not (is_send Send)) (eqb c c) (eq-eqb c c refl)))

pub vote_sound : (n a p : ℕ) (t : Note) (x : Step) → is_send x ≡ false → sound n a t ≡ true → sound n p (note x t.origin t.number t.content) ≡ true
vote_sound n a p t x e h =
    let i = and_parts (ltb t.origin n) _ h in
    let j = and_parts (leb t.number last_number) _ i.1 in
    and_from (ltb t.origin n) _ i.0 (and_from (leb t.number last_number) _ j.0 (or_left (not (is_send x)) (eqb t.origin p) (ap not e)))

pub vote_accepted : (m m' : Meaning) (a l : ℕ) (t : Note) (x : Step) → m'.n ≡ m.n → l < m.n → sound m.n a t ≡ true → is_send x ≡ false → 0 < m'.spare
    → refusal (say_causes m' l (note x t.origin t.number t.content) ++ spent m') ≡ None
vote_accepted m m' a l t x same hl h e room =
    say_accepted m' l (note x t.origin t.number t.content) (omega (arith, hl, same))
    (ap (λ (i : ℕ). sound i l (note x t.origin t.number t.content)) same ∙ vote_sound m.n a l t x e h) room

pub said_room : (g : ℕ) (m : Meaning) (a : ℕ) (t : Note) (m' : Meaning) (k : ℕ) → Said g m a t m' → k + 1 ≤ m.spare → k ≤ m'.spare
said_room g m a t m' k x h = omega (arith, x.spare, h)

pub hears-room : (m : Meaning) (l a : ℕ) (t : Note) (m' : Meaning) (k : ℕ) → Hears m l a t m' → k + 1 ≤ m.spare → k ≤ m'.spare
hears-room m l a t m' k x h = omega (arith, x.spare, h)

pub record OrderPassed (ks : List Kind) (s : State) (c k w : ℕ) : Type 0 where
  pub craft : c < s.carrier.n
  pub number : k ≤ last_number
  pub word : word_refusal ks w ≡ None
  pub new : s.ledger.ordered c k ≡ false
  pub spare : 3 ≤ s.carrier.spare

pub order_passed : (ks : List Kind) (s : State) (c k w : ℕ) → Accepted ks s (order c k w) → OrderPassed ks s c k w
order_passed ks s c k w e =
    let h = clear (causes ks s (order c k w)) e in
    let r = clear_rest (word_cause (word_refusal ks w)) (cause 4 6 (k ∷ []) (s.ledger.ordered c k) ∷ tight s) h.1.1 in
    record {
      craft = leb-false s.carrier.n c h.0;
      number = ltb-false last_number k h.1.0;
      word = clear_word (word_refusal ks w) r.0;
      new = r.1.0;
      spare = ltb-false s.carrier.spare 3 r.1.1.0;
    }

pub carry_passed : (ks : List Kind) (s : State) (i : ℕ) → Accepted ks s (carry i) → (refusal (carry_causes s.carrier i ++ spent s.carrier) ≡ None) × (3 ≤ s.carrier.spare)
carry_passed ks s i e =
    let h = clear (causes ks s (carry i)) e in
    let r = ltb-false s.carrier.spare 3 h.1.0 in
    (accepts (carry_causes s.carrier i ++ spent s.carrier) (h.0, (ne_eqb s.carrier.spare 0 (λ q. omega (arith, r, q)), tt)), r)

pub meddle_passed : (ks : List Kind) (s : State) (c to : ℕ) (u : Frame) → Accepted ks s (meddle c to u)
    → refusal (meddle_causes s.carrier c to ++ spent s.carrier) ≡ None
meddle_passed ks s c to u e =
    let h = clear (causes ks s (meddle c to u)) e in
    let r = ltb-false s.carrier.spare 3 h.1.1.1.1.0 in
    accepts (meddle_causes s.carrier c to ++ spent s.carrier) (h.0, (h.1.0, (h.1.1.0, (h.1.1.1.0, (ne_eqb s.carrier.spare 0 (λ q. omega (arith, r, q)), tt)))))

pub meddle_few : (ks : List Kind) (s : State) (c to : ℕ) (u : Frame) → Accepted ks s (meddle c to u) → others c s.carrier.astray < s.carrier.f
meddle_few ks s c to u e = leb-false s.carrier.f (others c s.carrier.astray) (clear (causes ks s (meddle c to u)) e).1.1.1.0

pub handed_on : (cs : List Cause) (s : State) (v : Told) → 3 ≤ s.carrier.spare → refusal (cs ++ spent s.carrier) ≡ Some v → refusal (cs ++ tight s) ≡ Some v
handed_on cs s v room e = ⊎_elim
    (λ (h : refusal cs ≡ Some v). refused_front cs (tight s) v h)
    (λ h. absurd (none-some _ (sym (accepts (spent s.carrier) (ne_eqb s.carrier.spare 0 (λ q. omega arith), tt)) ∙ h.1)))
    (refused_parts cs (spent s.carrier) v e)

pub too_tight : (cs : List Cause) (s : State) → refusal cs ≡ None → s.carrier.spare < 3
    → refusal (cs ++ tight s) ≡ Some record { layer = 4; number = 8; values = s.carrier.spare ∷ [] }
too_tight cs s none few = refused_back cs (tight s) none ∙ cond-true (ltb s.carrier.spare 3) _ _ (lt-ltb s.carrier.spare 3 few)

pub collect_passed : (ks : List Kind) (s : State) (c o k : ℕ) → Accepted ks s (collect c o k)
    → (c < s.carrier.n) × (o < s.carrier.n) × (k ≤ last_number) × (collectable s.ledger c o k ≡ true)
collect_passed ks s c o k e =
    let h = clear (causes ks s (collect c o k)) e in
    (leb-false s.carrier.n c h.0, leb-false s.carrier.n o h.1.0, ltb-false last_number k h.1.1.0, not-false (collectable s.ledger c o k) h.1.1.1.0)
