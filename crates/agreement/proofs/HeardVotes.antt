-- A table of first votes against what was heard. Assumes nothing.
--   Matches          each vote kept was heard, each author heard has a vote, and a craft's own vote is the one that it said
--   More             one vote more is heard at p, and of this order and step nothing else
--   Still            of this order and step nothing more is heard at p
--   matches_more     one vote more, taken into the table, and it matches
--   matches_still    nothing more, and it matches
use Rattle.std.proofs.Common.{◌≡◌, ℕ, true, false, ◌⊎◌, Some, Option, sym, ap, ◌∙◌, ⊎_elim}
use Rattle.frames.specs.declared.notes.Step.{Step}
use Rattle.frames.specs.Notes.{note}
use Rattle.agreement.specs.Meanings.{Meaning}
use Rattle.agreement.specs.Votes.{present, first}
use Rattle.agreement.proofs.FirstVotes.{first_keeps, first_at, first_cases, first_there, some_present, present_some}

pub record Matches (m : Meaning) (x : Step) (p o k : ℕ) (F : ℕ → Option ℕ) : Type 0 where
  pub heard : (a v : ℕ) → F a ≡ Some v → m.heard p a (note x o k v) ≡ true
  pub kept : (a v : ℕ) → m.heard p a (note x o k v) ≡ true → present (F a) ≡ true
  pub own : (v : ℕ) → m.heard p p (note x o k v) ≡ true → F p ≡ Some v

-- b's vote for w is heard at p, and of this order and step nothing else
pub record More (m m' : Meaning) (x : Step) (p o k b w : ℕ) : Type 0 where
  pub keeps : (a v : ℕ) → m.heard p a (note x o k v) ≡ true → m'.heard p a (note x o k v) ≡ true
  pub here : m'.heard p b (note x o k w) ≡ true
  pub only : (a v : ℕ) → m'.heard p a (note x o k v) ≡ true → (m.heard p a (note x o k v) ≡ true) ⊎ ((b ≡ a) × (w ≡ v))

-- of this order and step nothing more is heard at p
pub record Still (m m' : Meaning) (x : Step) (p o k : ℕ) : Type 0 where
  pub keeps : (a v : ℕ) → m.heard p a (note x o k v) ≡ true → m'.heard p a (note x o k v) ≡ true
  pub only : (a v : ℕ) → m'.heard p a (note x o k v) ≡ true → m.heard p a (note x o k v) ≡ true

pub matches_more : {m m' : Meaning} {x : Step} {p o k b w : ℕ} {F : ℕ → Option ℕ}
    → Matches m x p o k F → More m m' x p o k b w → (b ≡ p → present (F p) ≡ false) → Matches m' x p o k (first b w F)
matches_more {m} {m'} {x} {p} {o} {k} {b} {w} {F} h y new = record {
  heard = λ a v e. ⊎_elim
      (λ (q : (b ≡ a) × (w ≡ v)). ap (λ (i : ℕ). m'.heard p i (note x o k v)) (sym q.0) ∙ ap (λ (i : ℕ). m'.heard p b (note x o k i)) (sym q.1) ∙ y.here)
      (λ q. y.keeps a v (h.heard a v q))
      (first_cases b w F a v e);
  kept = λ a v e. ⊎_elim
      (λ (q : m.heard p a (note x o k v) ≡ true). let r = some_present (F a) (h.kept a v q) in present_some (first_keeps b w F a r.0 r.1))
      (λ q. ap (λ (i : ℕ). present (first b w F i)) (sym q.0) ∙ first_there b w F)
      (y.only a v e);
  own = λ v e. ⊎_elim
      (λ (q : m.heard p p (note x o k v) ≡ true). first_keeps b w F p v (h.own v q))
      (λ q. ap (λ (i : ℕ). first b w F i) (sym q.0) ∙ first_at b w F (ap (λ (i : ℕ). present (F i)) q.0 ∙ new q.0) ∙ ap (λ (i : ℕ). Some i) q.1)
      (y.only p v e);
}

pub matches_still : {m m' : Meaning} {x : Step} {p o k : ℕ} {F : ℕ → Option ℕ} → Matches m x p o k F → Still m m' x p o k → Matches m' x p o k F
matches_still h y = record {
  heard = λ a v e. y.keeps a v (h.heard a v e);
  kept = λ a v e. h.kept a v (y.only a v e);
  own = λ v e. h.own v (y.only _ v e);
}
