-- What each call does to what was heard and what waits, where every two craft are linked. Assumes nothing.
--   has-removed, all_removed   an entry taken out of a list
--   flows_say                  an author says a sound note, and puts it to all its neighbours
--   Straight, is_straight_lem      what a straight entry is known to have
--   flows_drop                 an entry is taken that is not straight, or was heard before
--   flows_hear                 an entry is taken and heard
--   flows_meddle               a craft puts a frame, and is astray
use Rattle.std.specs.Prelude.{◌≡◌, ℕ, suc, ◌+◌, ◌-◌, ◌<◌, ◌≤◌, Bool, true, false, ◌⊎◌, List, ◌++◌, length, get_or, ◌≢◌, slice_index, slice_index_or, refl}
use Rattle.std.proofs.Common.{sym, ap, subst, ◌∙◌, inl, inr, ⊎_elim, arith}
use Rattle.std.specs.List.{remove, ContainsAt as Has, AllByRecursion}
use Rattle.std.proofs.lemmas.List.Edits.{length-remove, get_or-remove_below, get_or-remove_above}
use Rattle.std.proofs.ByRecursion.{All-append, All-weaker, All-take, All-drop, All-get_or, has_append_left, has_append_right}
use Rattle.std.proofs.lemmas.Bool.{cases_order, cases_eq, both_ways, and_parts, and_from, eqb-true, ltb-true, not-true, lt-ltb, eq-eqb, ne_eqb, not_from_false}
use Rattle.sets.specs.Sets.{labels, has, only, adding}
use Rattle.sets.proofs.Each.{each_all, each-has}
use Rattle.sets.proofs.Members.{adding-has, adding_lacks, only_lacks}
use Rattle.frames.specs.declared.notes.Note.{Note}
use Rattle.frames.specs.declared.notes.Frame.{Frame}
use Rattle.frames.specs.Notes.{sound}
use Rattle.links.specs.declared.entries.Entry.{Entry}
use Rattle.links.specs.Meanings.{entry_to, sent}
use Rattle.agreement.specs.Meanings.{Meaning}
use Rattle.agreement.specs.Carrying.{Adds}
use Rattle.agreement.proofs.HeardNotes.{adds_cases, adds_keeps, adds_it}
use Rattle.carriers.specs.Parts.{own_frame}
use Rattle.carriers.specs.Directs.{straight, Linked, Truthful, Flows}
use Rattle.carriers.specs.Meshes.{Meshed}

-- ---- an entry taken out

module _ {X : Type 0} where
  pub has-removed : (xs : List X) (k : ℕ) (x e : X) → k < length xs → slice_index_or xs k e ≡ e → Has xs x → (e ≡ x) ⊎ Has (remove xs k) x
  has-removed xs k x e l r (i, li, at) =
      let n = length-remove xs k l in
      ⊎_elim (λ (q : i ≡ k). inl (sym r ∙ ap (λ (j : ℕ). get_or xs j e) (sym q) ∙ at e)) (⊎_elim
      (λ (b : i < k). inr (i, omega arith, λ d. get_or-remove_below xs k d i b l ∙ at d))
      (λ (b : k < i).
      let s : i - 1 + 1 ≡ i = omega arith in
      inr (i - 1, omega arith, λ d. get_or-remove_above xs k d (i - 1) (omega arith) l ∙ ap (λ (j : ℕ). get_or xs j d) s ∙ at d)))
      (cases_order i k)

  pub all_removed : (P : X → Type 0) (xs : List X) (k : ℕ) → AllByRecursion P xs → AllByRecursion P (remove xs k)
  all_removed P xs k h = All-append P _ _ (All-take P k xs h) (All-drop P (suc k) xs h)

-- ---- what is said

-- exactly one triple more: an entry stays truthful
truthful_more : {astray : ℕ} {m m' : Meaning} {l a : ℕ} {x : Note} → Adds m l a x m' → (e : Entry) → Truthful astray m.heard e → Truthful astray m'.heard e
truthful_more adds e t = record { own = λ loyal. let o = t.own loyal in (o.0, adds_keeps adds _ _ _ o.1) }

module _ (n astray : ℕ) (m m' : Meaning) (ws : List Entry) where
  pub flows_say : (rows : List ℕ) (a : ℕ) (x : Note) → n ≤ labels → Meshed rows n → a < n → sound n a x ≡ true → Adds m a a x m'
      → Flows n astray m.heard ws → Flows n astray m'.heard (ws ++ sent a (slice_index rows a) (own_frame a x))
  flows_say rows a x le full la ok adds f = record {
    linked = All-append (Linked n) _ _ f.linked
        (each_all (entry_to a (own_frame a x)) (slice_index rows a) (Linked n) labels (λ k l e. let o = full.others a k e in record { from = la; to = o.0; apart = o.1 }));
    truthful = All-append (Truthful astray m'.heard) _ _ (All-weaker (Truthful astray m.heard) (Truthful astray m'.heard) (truthful_more adds) ws f.truthful)
        (each_all (entry_to a (own_frame a x)) (slice_index rows a) (Truthful astray m'.heard) labels (λ k l e. record { own = λ _. (refl, adds_it adds) }));
    sound = λ b y e. ⊎_elim (f.sound b y)
        (λ p. subst (λ (i : ℕ). sound n i y ≡ true) p.0 (subst (λ (z : Note). sound n a z ≡ true) p.2 ok))
        (adds_cases adds b b y e);
    said = λ l b y loyal e. ⊎_elim (λ old. adds_keeps adds b b y (f.said l b y loyal old))
        (λ p. subst (λ (i : ℕ). m'.heard i i y ≡ true) p.1 (subst (λ (z : Note). m'.heard a a z ≡ true) p.2 (adds_it adds)))
        (adds_cases adds l b y e);
    due = λ l b y ll lb ne e. ⊎_elim
        (λ old. ⊎_elim (λ (t : m.heard l b y ≡ true). inl (adds_keeps adds l b y t)) (λ w. inr (has_append_left ws _ _ w)) (f.due l b y ll lb ne old))
        (λ p.
        let there : Has (ws ++ sent a (slice_index rows a) (own_frame a x)) (entry_to a (own_frame a x) l) =
        has_append_right ws _ _ (each-has (entry_to a (own_frame a x)) (slice_index rows a) labels l (omega arith) (full.all a l la ll (λ q. ne (sym q ∙ p.0)))) in
        inr (subst (λ (z : Note). Has (ws ++ sent a (slice_index rows a) (own_frame a x)) (entry_to b (own_frame b z) l)) p.2
        (subst (λ (i : ℕ). Has (ws ++ sent a (slice_index rows a) (own_frame a x)) (entry_to i (own_frame i x) l)) p.0 there)))
        (adds_cases adds b b y e);
  }

-- ---- what is taken

-- an author's own entry of a sound note is straight
honest_straight : (n : ℕ) (e : Entry) (l a : ℕ) (x : Note) → l < n → a < n → (l ≢ a) → sound n a x ≡ true
    → e ≡ entry_to a (own_frame a x) l → straight n e ≡ true
honest_straight n e l a x ll la ne ok q =
    subst (λ (z : Entry). straight n z ≡ true) (sym q)
    (and_from _ _ (lt-ltb l n ll) (and_from _ _ (lt-ltb a n la) (and_from _ _ (not_from_false _ (ne_eqb a l (λ p. ne (sym p)))) (and_from _ _ (eq-eqb a a refl) ok))))

pub record Straight (n : ℕ) (e : Entry) : Type 0 where
  pub to : e.to < n
  pub from : e.from < n
  pub apart : e.to ≡ e.from → ⊥
  pub author : e.frame.author ≡ e.from
  pub sound : sound n e.from e.frame.note ≡ true

pub is_straight_lem : (n : ℕ) (e : Entry) → straight n e ≡ true → Straight n e
is_straight_lem n e h =
    let p = and_parts _ _ h in
    let q = and_parts _ _ p.1 in
    let r = and_parts _ _ q.1 in
    let s = and_parts _ _ r.1 in
    let t = and_parts _ _ s.1 in
    let a : e.frame.author ≡ e.from = eqb-true _ _ s.0 in
    record {
      to = ltb-true _ _ p.0;
      from = ltb-true _ _ q.0;
      apart = λ x. both_ways _ (not-true _ r.0) (eq-eqb e.from e.to (sym x));
      author = a;
      sound = subst (λ (i : ℕ). sound n i e.frame.note ≡ true) a t.1;
    }

module _ (n astray : ℕ) (m : Meaning) (ws : List Entry) (k : ℕ) (e : Entry) (lt : k < length ws) (at : get_or ws k e ≡ e) (f : Flows n astray m.heard ws) where
  -- the entry taken is one that waited
  waited : (P : Entry → Type 0) → AllByRecursion P ws → P e
  waited P all = subst P at (All-get_or P ws k e lt all)

  pub flows_drop : (straight n e ≡ true → m.heard e.to e.from e.frame.note ≡ true) → Flows n astray m.heard (remove ws k)
  flows_drop old = record {
    linked = all_removed (Linked n) ws k f.linked;
    truthful = all_removed (Truthful astray m.heard) ws k f.truthful;
    sound = f.sound;
    said = f.said;
    due = λ l a x ll la ne s. ⊎_elim (λ (t : m.heard l a x ≡ true). inl t)
        (λ w. ⊎_elim
        (λ (q : e ≡ entry_to a (own_frame a x) l).
        inl (subst (λ (z : Entry). m.heard z.to z.from z.frame.note ≡ true) q (old (honest_straight n e l a x ll la ne (f.sound a x s) q))))
        (λ r. inr r) (has-removed ws k (entry_to a (own_frame a x) l) e lt at w))
        (f.due l a x ll la ne s);
  }

  pub flows_hear : (m' : Meaning) → Straight n e → Adds m e.to e.from e.frame.note m' → Flows n astray m'.heard (remove ws k)
  flows_hear m' str adds = record {
    linked = all_removed (Linked n) ws k f.linked;
    truthful = All-weaker (Truthful astray m.heard) (Truthful astray m'.heard) (truthful_more adds) (remove ws k) (all_removed (Truthful astray m.heard) ws k f.truthful);
    sound = λ b y s. ⊎_elim (f.sound b y) (λ p. absurd (str.apart (p.0 ∙ sym p.1))) (adds_cases adds b b y s);
    said = λ l b y loyal s. ⊎_elim (λ old. adds_keeps adds b b y (f.said l b y loyal old))
        (λ p.
        let own = (waited (Truthful astray m.heard) f.truthful).own (subst (λ (i : ℕ). has astray i ≡ false) (sym p.1) loyal) in
        adds_keeps adds b b y (subst (λ (i : ℕ). m.heard i i y ≡ true) p.1 (subst (λ (z : Note). m.heard e.from e.from z ≡ true) p.2 own.1)))
        (adds_cases adds l b y s);
    due = λ l a x ll la ne s. ⊎_elim
        (λ old. ⊎_elim (λ (t : m.heard l a x ≡ true). inl (adds_keeps adds l a x t))
        (λ w. ⊎_elim
        (λ (q : e ≡ entry_to a (own_frame a x) l). inl (subst (λ (z : Entry). m'.heard z.to z.from z.frame.note ≡ true) q (adds_it adds)))
        (λ r. inr r) (has-removed ws k (entry_to a (own_frame a x) l) e lt at w))
        (f.due l a x ll la ne old))
        (λ p. absurd (str.apart (p.0 ∙ sym p.1)))
        (adds_cases adds a a x s);
  }

-- ---- what a meddler puts

module _ (n astray : ℕ) (h : ℕ → ℕ → Note → Bool) (ws : List Entry) where
  pub flows_meddle : (c to : ℕ) (t : Frame) → c < n → to < n → (c ≢ to) → Flows n astray h ws → Flows n (adding c astray) h (ws ++ sent c (only to) t)
  flows_meddle c to t lc lt ne f = record {
    linked = All-append (Linked n) _ _ f.linked
        (each_all (entry_to c t) (only to) (Linked n) labels (λ k l e. ⊎_elim
        (λ (q : to ≡ k). record { from = lc; to = subst (λ (i : ℕ). i < n) q lt; apart = λ p. ne (p ∙ sym q) })
        (λ d. absurd (both_ways _ (only_lacks to k d) e)) (cases_eq to k)));
    truthful = All-append (Truthful (adding c astray) h) _ _
        (All-weaker (Truthful astray h) (Truthful (adding c astray) h) (λ e o. record { own = λ loyal. o.own (adding_lacks c astray e.from loyal).0 }) ws f.truthful)
        (each_all (entry_to c t) (only to) (Truthful (adding c astray) h) labels (λ k l e. record { own = λ loyal. absurd (both_ways _ loyal (adding-has c astray)) }));
    sound = f.sound;
    said = λ l a x loyal s. f.said l a x (adding_lacks c astray a loyal).0 s;
    due = λ l a x ll la d s. ⊎_elim (λ (t : h l a x ≡ true). inl t) (λ w. inr (has_append_left ws _ _ w)) (f.due l a x ll la d s);
  }
