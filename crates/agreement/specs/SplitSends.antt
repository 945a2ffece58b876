-- What the agreement theorem assumes leaves room for an attack: a craft astray sends two words under one number. Assumes nothing.
--   own_frame     the frame of a note with its author, said to have come through nobody
--   split_calls   craft 3 meddles a Send of v to craft 0 and a Send of w to craft 1, both under its number 0; then each hears its own; the newest first
--   Split         four craft, of which one may go astray: from an opening, over a carrier that keeps the laws, there is a run of just these calls,
--                 and then craft 0 has echoed v, and craft 1 w
--   SplitHeard    so for matter of any kinds and for any two words, different ones among them
use Rattle.std.specs.Prelude.{◌≡◌, ℕ, true, List, [], ◌∷◌, None}
use Rattle.matter.specs.Layouts.{Kind}
use Rattle.frames.specs.declared.notes.Step.TheVariants.{Send, Echo}
use Rattle.frames.specs.declared.notes.Note.{Note}
use Rattle.frames.specs.declared.notes.Frame.{Frame}
use Rattle.frames.specs.Notes.{note}
use Rattle.agreement.specs.Flights.{State, Event, heard, meddled}
use Rattle.agreement.specs.Runs.{Opening, Run}

abbrev pub own_frame : ℕ → Note → Frame
own_frame a t = record { author = a; note = t; set = 0 }

abbrev pub split_calls : ℕ → ℕ → List Event
split_calls v w =
    heard 0 1 3 (note Send 3 0 w) None
    ∷ heard 0 0 3 (note Send 3 0 v) None
    ∷ meddled 3 1 (own_frame 3 (note Send 3 0 w))
    ∷ meddled 3 0 (own_frame 3 (note Send 3 0 v))
    ∷ []

pub record Split (ks : List Kind) (v w : ℕ) : Type 0 where
  pub start : State
  pub final : State
  pub opening : Opening start
  pub run : Run 4 ks start (split_calls v w) final
  pub craft : final.carrier.n ≡ 4
  pub most_astray : final.carrier.f ≡ 1
  pub first_echo : final.carrier.heard 0 0 (note Echo 3 0 v) ≡ true
  pub second_echo : final.carrier.heard 1 1 (note Echo 3 0 w) ≡ true

abbrev pub SplitHeard : Type 0
SplitHeard = (ks : List Kind) (v w : ℕ) → Split ks v w
