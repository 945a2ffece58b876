-- The votes of one craft on the order of one origin and number, and what it does when it hears a note of that order.
-- Assumes nothing.
--   Tally          each author's first Echo and first Ready, and the word delivered
--   blank          none of them
--   present, is    whether there is a word, and whether it is this one
--   first          first votes, once a has voted for w: a later vote of a changes nothing
--   backers        how many of n craft have w as their first vote
--   Turn           whether a craft echoes, readies and delivers the word that it heard, and its tally then
--   hear           the turn of craft p, of n with at most f astray, on hearing a step of a for w, in these parts:
--     says_echo      a Send, and it has not echoed
--     echo_after     the first Echoes then, its own among them at once
--     ready_heard    the first Readies with what it heard
--     ready_due      on an Echo, if only its own: a quorum of Echoes for w; on a Ready: f + 1 Readies for w
--     says_ready     it is due, and it has not readied
--     ready_after    the first Readies then, its own among them at once
--     heard_ready    it heard a Ready, if only its own
--     delivery_due   2f + 1 Readies for w, and nothing delivered yet
--   notes_said     the notes that a turn says, the Echo before the Ready
use Rattle.std.specs.Prelude.{ℕ, ◌+◌, ◌*◌, Bool, true, false, cond, not, ◌&&◌, List, [], ◌∷◌, ◌++◌, is_some, Some, None, Option, ◌==◌, nat_le}
use Rattle.sets.specs.Sets.{count, passing}
use Rattle.sets.specs.Quorums.{quorum}
use Rattle.frames.specs.declared.notes.Step.{Step}
use Rattle.frames.specs.declared.notes.Step.TheVariants.{Send, Echo, Ready}
use Rattle.frames.specs.declared.notes.Note.{Note}
use Rattle.frames.specs.Notes.{note}

pub record Tally : Type 0 where
  pub echo : ℕ → Option ℕ
  pub ready : ℕ → Option ℕ
  pub delivered : Option ℕ

abbrev pub blank : Tally
blank = record { echo = λ a. None; ready = λ a. None; delivered = None }

abbrev pub present : Option ℕ → Bool
present o = is_some o

abbrev pub is : Option ℕ → ℕ → Bool
is None w = false
is (Some v) w = v == w

unfoldable pub first : ℕ → ℕ → (ℕ → Option ℕ) → ℕ → Option ℕ
first a w F b = cond (a == b && not (present (F b))) (Some w) (F b)

unfoldable pub backers : ℕ → (ℕ → Option ℕ) → ℕ → ℕ
backers n F w = count (passing n (λ a. is (F a) w))

pub record Turn : Type 0 where
  pub echoes : Bool
  pub readies : Bool
  pub delivers : Bool
  pub after : Tally

module _ (n f p a w : ℕ) (t : Tally) where
  abbrev pub says_echo : Step → Bool
  says_echo Send = not (present (t.echo p))
  says_echo Echo = false
  says_echo Ready = false

  abbrev pub echo_after : Step → ℕ → Option ℕ
  echo_after Send = cond (says_echo Send) (first p w t.echo) t.echo
  echo_after Echo = first a w t.echo
  echo_after Ready = t.echo

  abbrev pub ready_heard : Step → ℕ → Option ℕ
  ready_heard Send = t.ready
  ready_heard Echo = t.ready
  ready_heard Ready = first a w t.ready

  abbrev pub ready_due : Step → Bool
  ready_due Send = says_echo Send && nat_le (quorum n f) (backers n (echo_after Send) w)
  ready_due Echo = nat_le (quorum n f) (backers n (echo_after Echo) w)
  ready_due Ready = nat_le (f + 1) (backers n (ready_heard Ready) w)

  abbrev pub says_ready : Step → Bool
  says_ready x = ready_due x && not (present (ready_heard x p))

  abbrev pub ready_after : Step → ℕ → Option ℕ
  ready_after x = cond (says_ready x) (first p w (ready_heard x)) (ready_heard x)

  abbrev pub heard_ready : Step → Bool
  heard_ready Send = says_ready Send
  heard_ready Echo = says_ready Echo
  heard_ready Ready = true

  abbrev pub delivery_due : Step → Bool
  delivery_due x = heard_ready x && (nat_le (2 * f + 1) (backers n (ready_after x) w) && not (present t.delivered))

  unfoldable pub hear : Step → Turn
  hear x = record {
    echoes = says_echo x;
    readies = says_ready x;
    delivers = delivery_due x;
    after = record { echo = echo_after x; ready = ready_after x; delivered = cond (delivery_due x) (Some w) t.delivered };
  }

abbrev pub notes_said : Turn → ℕ → ℕ → ℕ → List Note
notes_said u o k w = cond u.echoes (note Echo o k w ∷ []) [] ++ cond u.readies (note Ready o k w ∷ []) []
