-- A carrier for four craft, of which one may go astray, and that it keeps the laws. Every two craft are linked. What is said waits for each craft,
-- the oldest first, and is then heard; what a craft meddles waits for the one craft that it meddles to, and is heard there as the meddler's own note.
-- Assumes nothing.
--   Triple, triple    a listener, an author and a note
--   Waits             a triple is one of those that wait
--   Good              what waits is sound, and was said by its author or meddled by it
--   Net               such a carrier: what waits, who is astray, who heard what
--   mean              what it means
--   lawful            it keeps the laws
--   said_net          the carrier once a has said t, and `said` that it is a say's step
--   say               a say's step, whether or not the note was said before
--   say_all_lem           the steps of a craft that says two notes, one of them or none
--   heard_net         the carrier once the oldest triple is heard, and `hears-first` that it is a carry's step
--   take-first        a carry's step, whether or not it lets anybody hear
--   meddled_net       the carrier once c has meddled its note t to another craft, and `meddles` that it is a meddle's step
--   idle_net          a carrier that nothing was done with
use Rattle.std.proofs.Common.{◌≡◌, ℕ, zero, suc, ◌<◌, Bool, true, false, cond, ◌&&◌, ◌||◌, eqb, ◌⊎◌, List, [], ◌∷◌, ◌++◌, length, sym, refl, ap, ◌∙◌, subst, inl, inr, ⊎_elim, arith, length-append}
use Rattle.std.proofs.lemmas.Bool.{cases_Bool, or_left, or_from, and_parts, eqb-true, both_ways}
use Rattle.sets.specs.Sets.{bit, In, only, adding}
use Rattle.sets.proofs.Members.{has_in, within_in, union_within_left, adding-has}
use Rattle.frames.specs.declared.notes.Note.{Note}
use Rattle.frames.specs.Notes.{sound, same_note}
use Rattle.agreement.specs.Meanings.{Meaning, Lawful, Fresh}
use Rattle.agreement.specs.Carrying.{Adds, Said, Quiet, Hears, Meddled, Fixed}
use Rattle.agreement.specs.Flights.{Saying}
use Rattle.frames.proofs.NoteLaws.{same_note_eq}
use Rattle.agreement.proofs.HeardNotes.{adds_cases, adds_keeps, adds_it}

pub record Triple : Type 0 where
  pub listener : ℕ
  pub author : ℕ
  pub said : Note

abbrev pub triple : ℕ → ℕ → Note → Triple
triple l a t = record { listener = l; author = a; said = t }

abbrev pub Waits : Triple → List Triple → Type 0
Waits x [] = ⊥
Waits x (y ∷ ys) = (y ≡ x) ⊎ Waits x ys

pub record Good (astray : ℕ) (heard : ℕ → ℕ → Note → Bool) (l a : ℕ) (t : Note) : Type 0 where
  pub listener : l < 4
  pub author : a < 4
  pub sound : sound 4 a t ≡ true
  pub origin : (heard a a t ≡ true) ⊎ (In a astray × (l ≡ a → ⊥))

pub record Net : Type 0 where
  pub queue : List Triple
  pub astray : ℕ
  pub heard : ℕ → ℕ → Note → Bool
  pub true_said : (l a : ℕ) (t : Note) → bit astray a ≡ 0 → heard l a t ≡ true → heard a a t ≡ true
  pub coming : (l a : ℕ) (t : Note) → l < 4 → heard a a t ≡ true → (heard l a t ≡ true) ⊎ Waits (triple l a t) queue
  pub good : (l a : ℕ) (t : Note) → Waits (triple l a t) queue → Good astray heard l a t

abbrev pub shape : List Triple → ℕ → (ℕ → ℕ → Note → Bool) → Meaning
shape q s h = record { n = 4; f = 1; chart = 14 ∷ 13 ∷ 11 ∷ 7 ∷ []; heard = h; waiting = length q; astray = s; spare = 64; toil = length q }

abbrev pub mean : Net → Meaning
mean x = shape x.queue x.astray x.heard

fixed : (x y : Net) → Fixed (mean x) (mean y)
fixed x y = record { n = refl; f = refl; chart = refl }

none_left : (q : List Triple) (z : Triple) → length q ≡ 0 → Waits z q → ⊥
none_left [] z e w = w
none_left (y ∷ ys) z e w = omega arith

pub lawful : (x : Net) → Lawful (mean x)
lawful x = record {
  limits = record { least = omega arith; most = omega arith; few = omega arith };
  nothing_invented = λ l a t hl ha e. x.true_said l a t ha.loyal e;
  nothing_lost = λ rest l a t hl ha e. ⊎_elim
      (λ (i : x.heard l a t ≡ true). i)
      (λ i. absurd (none_left x.queue (triple l a t) rest i))
      (x.coming l a t hl.below e);
}

-- ---- what waits behind others

pub waits_front : (z : Triple) (xs ys : List Triple) → Waits z xs → Waits z (xs ++ ys)
waits_front z [] ys w = absurd w
waits_front z (x ∷ xs) ys w = ⊎_elim inl (λ (i : Waits z xs). inr (waits_front z xs ys i)) w

pub waits_back : (z : Triple) (xs ys : List Triple) → Waits z ys → Waits z (xs ++ ys)
waits_back z [] ys w = w
waits_back z (x ∷ xs) ys w = inr (waits_back z xs ys w)

pub waits_cases : (z : Triple) (xs ys : List Triple) → Waits z (xs ++ ys) → Waits z xs ⊎ Waits z ys
waits_cases z [] ys w = inr w
waits_cases z (x ∷ xs) ys w = ⊎_elim (λ e. inl (inl e)) (λ (i : Waits z (xs ++ ys)). ⊎_elim (λ j. inl (inr j)) inr (waits_cases z xs ys i)) w

-- what waits stays good as more is heard and more go astray
pub good_still : {s s' : ℕ} {h h' : ℕ → ℕ → Note → Bool} {l a : ℕ} {t : Note} → (h a a t ≡ true → h' a a t ≡ true) → (In a s → In a s') → Good s h l a t → Good s' h' l a t
good_still keeps more g = record {
  listener = g.listener;
  author = g.author;
  sound = g.sound;
  origin = ⊎_elim (λ i. inl (keeps i)) (λ i. inr (more i.0, i.1)) g.origin;
}

-- ---- one triple more is heard

abbrev pub with : (ℕ → ℕ → Note → Bool) → ℕ → ℕ → Note → ℕ → ℕ → Note → Bool
with h l a t l' a' t' = h l' a' t' || (eqb l l' && (eqb a a' && same_note t t'))

pub with_adds : (q q' : List Triple) (s : ℕ) (h : ℕ → ℕ → Note → Bool) (l a : ℕ) (t : Note) → Adds (shape q s h) l a t (shape q' s (with h l a t))
with_adds q q' s h l a t = record { at = λ l' a' t'. refl }

-- what was heard already adds nothing
adds_nothing : (x : Net) (l a : ℕ) (t : Note) → x.heard l a t ≡ true → Adds (mean x) l a t (mean x)
adds_nothing x l a t e = record {
  at = λ l' a' t'. ⊎_elim
      (λ (i : x.heard l' a' t' ≡ true). i ∙ sym (or_left (x.heard l' a' t') _ i))
      (λ i. ⊎_elim
      (λ (j : (eqb l l' && (eqb a a' && same_note t t')) ≡ true).
      let p = and_parts (eqb l l') _ j in
      let q = and_parts (eqb a a') _ p.1 in
      absurd (both_ways (x.heard l' a' t') i ((λ z. x.heard (sym (eqb-true l l' p.0) z) (sym (eqb-true a a' q.0) z) (sym (same_note_eq t t' q.1) z)) ∙ e)))
      (λ j. i ∙ sym (or_from (x.heard l' a' t') _ i j))
      (cases_Bool (eqb l l' && (eqb a a' && same_note t t'))))
      (cases_Bool (x.heard l' a' t'));
}

-- ---- say

abbrev pub spread : ℕ → Note → List Triple
spread a t = triple 0 a t ∷ triple 1 a t ∷ triple 2 a t ∷ triple 3 a t ∷ []

pub spread_has : (l a : ℕ) (t : Note) → l < 4 → Waits (triple l a t) (spread a t)
spread_has zero a t h = inl refl
spread_has (suc zero) a t h = inr (inl refl)
spread_has (suc (suc zero)) a t h = inr (inr (inl refl))
spread_has (suc (suc (suc zero))) a t h = inr (inr (inr (inl refl)))
spread_has (suc (suc (suc (suc l)))) a t h = absurd (omega arith)

-- a new entry is (c, a, t) for some craft c
pub spread_cases : (l b : ℕ) (u : Note) (a : ℕ) (t : Note) → Waits (triple l b u) (spread a t) → (l < 4) × (a ≡ b) × (t ≡ u)
spread_cases l b u a t =
    let new : (c : ℕ) → c < 4 → triple c a t ≡ triple l b u → (l < 4) × (a ≡ b) × (t ≡ u) = λ c h e.
    (omega (arith, h, ap (λ (z : Triple). z.listener) e), ap (λ (z : Triple). z.author) e, ap (λ (z : Triple). z.said) e) in
    ⊎_elim (new 0 (omega arith)) (⊎_elim (new 1 (omega arith)) (⊎_elim (new 2 (omega arith)) (⊎_elim (new 3 (omega arith)) absurd)))

abbrev pub said_net : (x : Net) (a : ℕ) (t : Note) → a < 4 → sound 4 a t ≡ true → Net
said_net x a t ha ht =
    let h = with x.heard a a t in
    let adds = with_adds x.queue (x.queue ++ spread a t) x.astray x.heard a a t in
    record {
      queue = x.queue ++ spread a t;
      astray = x.astray;
      heard = h;
      true_said = λ l b u loyal e. ⊎_elim
          (λ (i : x.heard l b u ≡ true). adds_keeps adds b b u (x.true_said l b u loyal i))
          (λ i. (λ z. h (sym i.1 z) (sym i.1 z) (sym i.2 z)) ∙ adds_it adds)
          (adds_cases adds l b u e);
      coming = λ l b u hl e. ⊎_elim
          (λ (i : x.heard b b u ≡ true). ⊎_elim
          (λ (j : x.heard l b u ≡ true). inl (adds_keeps adds l b u j))
          (λ j. inr (waits_front (triple l b u) x.queue (spread a t) j))
          (x.coming l b u hl i))
          (λ i. inr (waits_back (triple l b u) x.queue (spread a t) (subst (λ (z : Triple). Waits z (spread a t)) (λ z. triple l (i.1 z) (i.2 z)) (spread_has l a t hl))))
          (adds_cases adds b b u e);
      good = λ l b u w. ⊎_elim
          (λ (i : Waits (triple l b u) x.queue). good_still (λ j. adds_keeps adds b b u j) (λ j. j) (x.good l b u i))
          (λ i. let r = spread_cases l b u a t i in
          record {
            listener = r.0;
            author = omega (arith, ha, r.1);
            sound = (λ z. sound 4 (sym r.1 z) (sym r.2 z)) ∙ ht;
            origin = inl ((λ z. h (sym r.1 z) (sym r.1 z) (sym r.2 z)) ∙ adds_it adds);
          })
          (waits_cases (triple l b u) x.queue (spread a t) w);
    }

pub said : (x : Net) (a : ℕ) (t : Note) (ha : a < 4) (ht : sound 4 a t ≡ true) → x.heard a a t ≡ false → Said 4 (mean x) a t (mean (said_net x a t ha ht))
said x a t ha ht new = record {
  fixed = fixed x (said_net x a t ha ht);
  heard = with_adds x.queue (x.queue ++ spread a t) x.astray x.heard a a t;
  again = λ e. absurd (both_ways (x.heard a a t) new e);
  astray = refl;
  toil = omega (arith, length-append x.queue (spread a t));
  spare = omega arith;
}

pub say : (x : Net) (a : ℕ) (t : Note) → a < 4 → sound 4 a t ≡ true → (y : Net) × Said 4 (mean x) a t (mean y)
say x a t ha ht = ⊎_elim
    (λ (e : x.heard a a t ≡ true).
    (x, record { fixed = fixed x x; heard = adds_nothing x a a t e; again = λ _. refl; astray = refl; toil = omega arith; spare = omega arith }))
    (λ e. (said_net x a t ha ht, said x a t ha ht e))
    (cases_Bool (x.heard a a t))

pub say_all_lem : (x : Net) (a : ℕ) (e r : Bool) (t u : Note) → a < 4 → sound 4 a t ≡ true → sound 4 a u ≡ true → (y : Net) × Saying 4 (mean x) a (cond e (t ∷ []) [] ++ cond r (u ∷ []) []) (mean y)
say_all_lem x a true true t u ha ht hu = let y = say x a t ha ht in let z = say y.0 a u ha hu in (z.0, (mean y.0, y.1, (mean z.0, z.1, refl)))
say_all_lem x a true false t u ha ht hu = let y = say x a t ha ht in (y.0, (mean y.0, y.1, refl))
say_all_lem x a false true t u ha ht hu = let y = say x a u ha hu in (y.0, (mean y.0, y.1, refl))
say_all_lem x a false false t u ha ht hu = (x, refl)

-- ---- carry, of the oldest that waits

module _ (x : Net) (z : Triple) (zs : List Triple) (e : x.queue ≡ z ∷ zs) where
  pub fewer : length x.queue ≡ suc (length zs)
  fewer = ap length e

  pub more : (u : Triple) → Waits u zs → Waits u x.queue
  more u w = subst (λ (i : List Triple). Waits u i) (sym e) (inr w)

  pub back : (u : Triple) → Waits u x.queue → (z ≡ u) ⊎ Waits u zs
  back u w = subst (λ (i : List Triple). Waits u i) e w

  pub oldest : Good x.astray x.heard z.listener z.author z.said
  oldest = x.good z.listener z.author z.said (subst (λ (i : List Triple). Waits z i) (sym e) (inl refl))

  -- it was heard before: it is only taken away
  dropped_net : x.heard z.listener z.author z.said ≡ true → Net
  dropped_net i = record {
    queue = zs;
    astray = x.astray;
    heard = x.heard;
    true_said = x.true_said;
    coming = λ l b u hl k. ⊎_elim inl
        (λ w. ⊎_elim (λ (q : z ≡ triple l b u). inl ((λ j. x.heard (sym q j).listener (sym q j).author (sym q j).said) ∙ i)) inr (back (triple l b u) w))
        (x.coming l b u hl k);
    good = λ l b u w. x.good l b u (more (triple l b u) w);
  }

  moves : (i : x.heard z.listener z.author z.said ≡ true) → Quiet (mean x) (mean (dropped_net i))
  unfolding dropped_net
  moves i = record { fixed = fixed x (dropped_net i); heard = record { at = λ _ _ _. refl }; astray = refl; toil = omega (arith, fewer); spare = omega arith }

  module _ (new : x.heard z.listener z.author z.said ≡ false) where
    pub apart : z.listener ≡ z.author → ⊥
    apart q = ⊎_elim
        (λ (i : x.heard z.author z.author z.said ≡ true). both_ways (x.heard z.listener z.author z.said) new ((λ c. x.heard (q c) z.author z.said) ∙ i))
        (λ i. i.1 q)
        oldest.origin

    abbrev pub heard_net : Net
    heard_net =
        let adds = with_adds x.queue zs x.astray x.heard z.listener z.author z.said in
        let h = with x.heard z.listener z.author z.said in
        record {
          queue = zs;
          astray = x.astray;
          heard = h;
          true_said = λ l b u loyal k. ⊎_elim
              (λ (j : x.heard l b u ≡ true). adds_keeps adds b b u (x.true_said l b u loyal j))
              (λ j. adds_keeps adds b b u (⊎_elim
              (λ (i : x.heard z.author z.author z.said ≡ true). (λ c. x.heard (sym j.1 c) (sym j.1 c) (sym j.2 c)) ∙ i)
              (λ i. absurd (omega (arith, i.0, ap (λ (c : ℕ). bit x.astray c) j.1, loyal)))
              oldest.origin))
              (adds_cases adds l b u k);
          coming = λ l b u hl k. ⊎_elim
              (λ (j : x.heard b b u ≡ true). ⊎_elim
              (λ (w : x.heard l b u ≡ true). inl (adds_keeps adds l b u w))
              (λ w. ⊎_elim (λ (q : z ≡ triple l b u). inl ((λ c. h (sym q c).listener (sym q c).author (sym q c).said) ∙ adds_it adds)) inr (back (triple l b u) w))
              (x.coming l b u hl j))
              (λ j. absurd (apart (j.0 ∙ sym j.1)))
              (adds_cases adds b b u k);
          good = λ l b u w. good_still (λ j. adds_keeps adds b b u j) (λ j. j) (x.good l b u (more (triple l b u) w));
        }

    pub hears-first : Hears (mean x) z.listener z.author z.said (mean heard_net)
    hears-first = record {
      fixed = fixed x heard_net;
      new = new;
      listener = oldest.listener;
      author = oldest.author;
      apart = apart;
      sound = oldest.sound;
      heard = with_adds x.queue zs x.astray x.heard z.listener z.author z.said;
      astray = refl;
      toil = omega (arith, fewer);
      spare = omega arith;
    }

pub record HeardOf (x : Net) : Type 0 where
  pub listener : ℕ
  pub author : ℕ
  pub said : Note
  pub after : Net
  pub hears : Hears (mean x) listener author said (mean after)

pub take-first : (x : Net) → 0 < length x.queue → ((y : Net) × Quiet (mean x) (mean y)) ⊎ HeardOf x
take-first x h = go x.queue refl h
  where
    go : (q : List Triple) → x.queue ≡ q → 0 < length q → ((y : Net) × Quiet (mean x) (mean y)) ⊎ HeardOf x
    go [] e l = absurd (omega arith)
    go (z ∷ zs) e l = ⊎_elim
        (λ (i : x.heard z.listener z.author z.said ≡ true). inl (dropped_net x z zs e i, moves x z zs e i))
        (λ i. inr (record { listener = z.listener; author = z.author; said = z.said; after = heard_net x z zs e i; hears = hears-first x z zs e i }))
        (cases_Bool (x.heard z.listener z.author z.said))

-- ---- meddle, with a note of one's own

abbrev pub meddled_net : (x : Net) (c to : ℕ) (t : Note) → c < 4 → to < 4 → (to ≡ c → ⊥) → sound 4 c t ≡ true → Net
meddled_net x c to t hc ht ne snd = record {
  queue = x.queue ++ triple to c t ∷ [];
  astray = adding c x.astray;
  heard = x.heard;
  true_said = λ l a u loyal e. x.true_said l a u (omega (arith, loyal, union_within_left x.astray (only c) a)) e;
  coming = λ l a u hl e. ⊎_elim inl (λ i. inr (waits_front (triple l a u) x.queue (triple to c t ∷ []) i)) (x.coming l a u hl e);
  good = λ l a u w. ⊎_elim
      (λ (i : Waits (triple l a u) x.queue).
      good_still (λ j. j) (within_in x.astray (adding c x.astray) a (union_within_left x.astray (only c))) (x.good l a u i))
      (⊎_elim
      (λ (i : triple to c t ≡ triple l a u).
      let l-is : to ≡ l = ap (λ (z : Triple). z.listener) i in
      let a-is : c ≡ a = ap (λ (z : Triple). z.author) i in
      let u-is : t ≡ u = ap (λ (z : Triple). z.said) i in
      record {
        listener = omega (arith, ht, l-is);
        author = omega (arith, hc, a-is);
        sound = (λ z. sound 4 (sym a-is z) (sym u-is z)) ∙ snd;
        origin = inr (
          subst (λ (z : ℕ). In z (adding c x.astray)) a-is (has_in (adding c x.astray) c (adding-has c x.astray)),
          λ q. ne (l-is ∙ q ∙ sym a-is),
        );
      })
      absurd)
      (waits_cases (triple l a u) x.queue (triple to c t ∷ []) w);
}

pub meddles : (x : Net) (c to : ℕ) (t : Note) (hc : c < 4) (ht : to < 4) (ne : to ≡ c → ⊥) (snd : sound 4 c t ≡ true) → Meddled (mean x) c (mean (meddled_net x c to t hc ht ne snd))
meddles x c to t hc ht ne snd = record { fixed = record { n = refl; f = refl; chart = refl }; heard = record { at = λ _ _ _. refl }; astray = refl; spare = omega arith }

-- ---- nothing said yet

abbrev pub idle_net : Net
idle_net = record {
  queue = [];
  astray = 0;
  heard = λ l a t. false;
  true_said = λ l a t _ e. e;
  coming = λ l a t hl e. inl e;
  good = λ l a t w. absurd w;
}

pub idle_fresh : Fresh (mean idle_net)
idle_fresh = record { heard = λ l a t. refl; waiting = refl; astray = refl; spare = omega arith }
