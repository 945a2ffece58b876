-- Craft 3 sends two words under one number, and both are heard. Assumes nothing.
--   lone_backer    a first vote that stands alone is one vote
--   lone_ready, lone_delivery
--                  on the first Send of an order, among four craft, no Ready is due and nothing is delivered
--   echo_said      a turn that echoes and does not ready says one note
--   heard_alone    the step of a carry that lets l hear the first Send of an order
use Rattle.std.proofs.Common.{◌≡◌, ℕ, ◌-◌, ◌<◌, ◌≤◌, Bool, true, false, cond, ◌&&◌, ◌||◌, eqb, List, [], ◌∷◌, ◌++◌, length, None, Option, sym, refl, ap, ◌∙◌, subst, ⊎_elim, arith}
use Rattle.std.proofs.lemmas.Bool.{cond-false, and_left, or_left, eq-eqb, lt-leb, le-ltb, not_from_true, true≢false}
use Rattle.sets.specs.Sets.{In, only, others, passing}
use Rattle.sets.proofs.Bits.{bit-only}
use Rattle.sets.proofs.Passing.{passing_in}
use Rattle.sets.proofs.Counts.{count-zero, count-only, count_by_members}
use Rattle.refusals.proofs.FirstCause.{accepts}
use Rattle.matter.specs.Layouts.{Kind}
use Rattle.frames.specs.declared.notes.Step.TheVariants.{Send, Echo, Ready}
use Rattle.frames.specs.declared.notes.Note.{Note}
use Rattle.frames.specs.Notes.{sound, note}
use Rattle.agreement.specs.Meanings.{Meaning}
use Rattle.agreement.specs.Carrying.{Said, linked}
use Rattle.agreement.specs.Votes.{Tally, blank, is, first, backers, hear, says_ready, delivery_due}
use Rattle.agreement.specs.Flights.{State, Ledger, heard, meddle, meddled, Saying, Answered, causes, turn}
use Rattle.agreement.specs.Runs.{still, then}
use Rattle.agreement.specs.Lives.{state}
use Rattle.agreement.specs.SplitSends.{own_frame, Split, SplitHeard}
use Rattle.agreement.proofs.Room.{own_sound}
use Rattle.agreement.proofs.FirstVotes.{is_true, first_cases}
use Rattle.agreement.proofs.IdealCarrier.{Net, mean, lawful, Triple, triple, spread, said_net, said, heard_net, hears-first, meddled_net, meddles, idle_net}
use Rattle.agreement.proofs.IdealFlight.{empty, opening, voted, vote_sound-here, carry_accepted}

lone_backer : (n p w : ℕ) → backers n (first p w (λ a. None)) w ≤ 1
unfolding backers
lone_backer n p w =
    let F : ℕ → Option ℕ = first p w (λ a. None) in
    omega (
      arith,
      count-only p,
      count_by_members (passing n (λ a. is (F a) w)) (only p) (λ i h.
          ⊎_elim
          (λ (q : (p ≡ i) × (w ≡ w)). subst (λ (z : ℕ). In z (only p)) q.0 (bit-only p))
          (λ q. let z : ◌≡◌ {A = ℕ} 0 1 = cc in absurd (omega arith))
          (first_cases p w (λ a. None) i w (is_true (F i) w (passing_in n (λ a. is (F a) w) i h).1))),
    )

lone_ready : (p a w : ℕ) → says_ready 4 1 p a w blank Send ≡ false
lone_ready p a w = ap (λ (b : Bool). b && true) (lt-leb 3 (backers 4 (first p w (λ b. None)) w) (omega (arith, lone_backer 4 p w)))

lone_delivery : (p a w : ℕ) → delivery_due 4 1 p a w blank Send ≡ false
lone_delivery p a w = and_left (says_ready 4 1 p a w blank Send) _ (lone_ready p a w)

echo_said : (m m' : Meaning) (l : ℕ) (t u : Note) (e r : Bool) → e ≡ true → r ≡ false → Said 4 m l t m' → Saying 4 m l (cond e (t ∷ []) [] ++ cond r (u ∷ []) []) m'
echo_said m m' l t u true true i j h = absurd (true≢false j)
echo_said m m' l t u true false i j h = (m', h, refl)
echo_said m m' l t u false r i j h = absurd (true≢false (sym i))

module _ (ks : List Kind) (x : Net) (b : Ledger) (l o w : ℕ) (zs : List Triple) (hl : l < 4) (ho : o < 4)
    (e : x.queue ≡ triple l o (note Send o 0 w) ∷ zs) (new : x.heard l o (note Send o 0 w) ≡ false) where
  abbrev t : Note
  t = note Send o 0 w

  abbrev heard_it : Net
  heard_it = heard_net x (triple l o t) zs e new

  abbrev echo_sound : sound 4 l (note Echo o 0 w) ≡ true
  echo_sound = vote_sound-here l Echo o 0 w ho (omega arith) refl

  abbrev echoed : Net
  echoed = said_net heard_it l (note Echo o 0 w) hl echo_sound

  heard_alone : b.votes l o 0 ≡ blank → heard_it.heard l l (note Echo o 0 w) ≡ false
      → Answered 4 ks (state (mean x) b) (heard 0 l o t None) (state (mean echoed) (voted (state (mean x) b) l o t b.ordered))
  unfolding hear
  heard_alone fresh unsaid = (
    carry_accepted ks x b (omega (arith, ap length e)),
    record {
      between = mean heard_it;
      hears = hears-first x (triple l o t) zs e new;
      voted = record {
        says = echo_said (mean heard_it) (mean echoed) l (note Echo o 0 w) (note Ready o 0 w) (turn (state (mean x) b) l o t).echoes (turn (state (mean x) b) l o t).readies
            (ap (λ (y : Tally). (hear 4 1 l o w y Send).echoes) fresh) (ap (λ (y : Tally). (hear 4 1 l o w y Send).readies) fresh ∙ lone_ready l o w)
            (said heard_it l (note Echo o 0 w) hl echo_sound unsaid);
        votes = λ c p k. refl;
        told = sym (cond-false (turn (state (mean x) b) l o t).delivers _ None (ap (λ (y : Tally). (hear 4 1 l o w y Send).delivers) fresh ∙ lone_delivery l o w));
      };
      orders = λ c k. refl;
      slips = record { out = λ c p k. refl; booked = λ c p k. refl };
    },
  )

-- craft 3 meddles a Send of its own, and nobody else is astray
meddle_alone : (ks : List Kind) (x : Net) (b : Ledger) (to w : ℕ) (ht : to < 4) (ne : to ≡ 3 → ⊥) → linked (mean x) 3 to ≡ true → others 3 x.astray ≡ 0
    → Answered 4 ks (state (mean x) b) (meddled 3 to (own_frame 3 (note Send 3 0 w)))
    (state (mean (meddled_net x 3 to (note Send 3 0 w) (omega arith) ht ne (own_sound 4 3 0 w (omega arith) (omega arith)))) b)
meddle_alone ks x b to w ht ne link few = (
  accepts (causes ks (state (mean x) b) (meddle 3 to (own_frame 3 (note Send 3 0 w))))
      (lt-leb 4 3 (omega arith), (lt-leb 4 to ht, (not_from_true (linked (mean x) 3 to) link, (lt-leb 1 (others 3 x.astray) (omega arith), (le-ltb 64 3 (omega arith), tt))))),
  record { meddled = meddles x 3 to (note Send 3 0 w) (omega arith) ht ne (own_sound 4 3 0 w (omega arith) (omega arith)); ledger = refl },
)

split : (ks : List Kind) (v w : ℕ) → Split ks v w
split ks v w =
    let s₀ : State = state (mean idle_net) empty in
    let own : (u : ℕ) → sound 4 3 (note Send 3 0 u) ≡ true = λ u. own_sound 4 3 0 u (omega arith) (omega arith) in
    let x₁ : Net = meddled_net idle_net 3 0 (note Send 3 0 v) (omega arith) (omega arith) (λ q. omega arith) (own v) in
    let x₂ : Net = meddled_net x₁ 3 1 (note Send 3 0 w) (omega arith) (omega arith) (λ q. omega arith) (own w) in
    let x₃ : Net = echoed ks x₂ empty 0 3 v (triple 1 3 (note Send 3 0 w) ∷ []) (omega arith) (omega arith) refl refl in
    let b₃ : Ledger = voted (state (mean x₂) empty) 0 3 (note Send 3 0 v) empty.ordered in
    let x₄ : Net = echoed ks x₃ b₃ 1 3 w (spread 0 (note Echo 3 0 v)) (omega arith) (omega arith) refl refl in
    let b₄ : Ledger = voted (state (mean x₃) b₃) 1 3 (note Send 3 0 w) b₃.ordered in
    record {
      start = s₀;
      final = state (mean x₄) b₄;
      opening = opening;
      run = then (then (then (then (still (lawful idle_net))
          (meddle_alone ks idle_net empty 0 v (omega arith) (λ q. omega arith) refl count-zero) (lawful x₁))
          (meddle_alone ks x₁ empty 1 w (omega arith) (λ q. omega arith) refl (ap (λ (z : ℕ). z - 1) (count-only 3))) (lawful x₂))
          (heard_alone ks x₂ empty 0 3 v (triple 1 3 (note Send 3 0 w) ∷ []) (omega arith) (omega arith) refl refl refl refl) (lawful x₃))
          (heard_alone ks x₃ b₃ 1 3 w (spread 0 (note Echo 3 0 v)) (omega arith) (omega arith) refl refl refl refl) (lawful x₄);
      craft = refl;
      most_astray = refl;
      first_echo = or_left (eqb v v || false) false (or_left (eqb v v) false (eq-eqb v v refl));
      second_echo = eq-eqb w w refl;
    }

pub split_heard : SplitHeard
split_heard ks v w = split ks v w
