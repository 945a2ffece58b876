-- The first order of two craft over a direct carrier. Assumes nothing.
--   only_row       the one neighbour of a craft of two is the other
--   one_frame      so a note that it says goes into one frame
--   SaysNew        one frame more waits, and exactly this note is heard in addition, by its author
--   says_new       so where a note is said that was not said before
--   after_send     the turn of a craft of two on its own Send, where it has not voted: it echoes, and that is all
--   once_voted     the votes of a flight in which that is the only turn
--   one_backer     one of two is no quorum
--   turn_is        so that is its turn
--   one_said       of the Echoes and Readies of two craft, one was said then
--   first_turn     a flight of two that was opened just now takes that turn on an order
--   toil_is        two that wait and one note said make a toil of 219
--   toil_of_two    the toil after an order
use Rattle.std.proofs.Common.{◌≡◌, ℕ, zero, suc, ◌+◌, ◌*◌, ◌-◌, ◌<◌, ◌≤◌, Bool, true, false, cond, ◌&&◌, ◌||◌, eqb, leb, List, length, get_or, Some, None, Ok, sym, refl, ap, subst, ◌∙◌, arith, length-append}
use Rattle.sets.specs.Sets.{In, only, count, each, passing, union}
use Rattle.sets.specs.Quorums.{quorum}
use Rattle.sets.proofs.Bits.{bit-only}
use Rattle.sets.proofs.Counts.{count-zero, count-only}
use Rattle.sets.proofs.Members.{has_in, in_has, only_in, same_members}
use Rattle.matter.specs.Layouts.{Kind}
use Rattle.frames.specs.declared.notes.Step.TheVariants.{Send, Echo}
use Rattle.frames.specs.declared.notes.Note.{Note}
use Rattle.frames.specs.declared.notes.Frame.{Frame}
use Rattle.frames.specs.Notes.{note, same_note}
use Rattle.cuts.specs.declared.complete.CompleteChart.{CompleteChart}
use Rattle.links.specs.Meanings.{sent}
use Rattle.links.specs.Meanings as links
use Rattle.shelves.proofs.Hearing.{heard-held}
use Rattle.agreement.specs.Carrying.{Adds}
use Rattle.agreement.specs.Votes.{Tally, Turn, blank, first, backers, hear, notes_said}
use Rattle.agreement.specs.Flights.{State, here, turn, sum, total_said}
use Rattle.agreement.specs.Runs.{Empty}
use Rattle.agreement.proofs.Room.{order_passed}
use Rattle.carriers.specs.declared.direct.Direct.{Direct}
use Rattle.carriers.specs.Parts.{own_frame}
use Rattle.carriers.specs.Directs.{rows_of_chart, means, Sound, SaysDirect}
use Rattle.carriers.specs.ChartRows.{row_is}
use Rattle.carriers.specs.Meshes.{meshed}
use Rattle.flight.specs.Ledgers.{state_of}
use Rattle.flight.specs.Exact.{SaidAll}
use Rattle.flight.specs.ToilOfTwo.{OneOrdered, ToilOfTwo}

-- ---- what is said

module _ (h : CompleteChart) (two : h.chart.n ≡ 2) where
  only_row : (a b : ℕ) → a + b ≡ 1 → get_or h.chart.rows a 0 ≡ only b
  only_row a b e =
      let w = meshed h in
      let r = get_or (rows_of_chart h) a 0 in
      let there : In b r = has_in r b (w.all a b (omega (arith, two)) (omega (arith, two)) (λ q. omega arith)) in
      let alone : (i : ℕ) → In i r → b ≡ i = λ i l. let o = w.others a i (in_has r i l) in let apart = o.1 in omega (arith, o.0, two) in
      row_is h.chart a ∙ same_members r (only b)
      (λ i l. subst (λ (j : ℕ). In j (only b)) (alone i l) (bit-only b))
      (λ i l. subst (λ (j : ℕ). In j r) (only_in b i l) there)

  sent_to : (a b : ℕ) (x : Frame) → b < 2 → length (sent a (only b) x) ≡ 1
  unfolding each
  sent_to a zero x l = refl
  sent_to a (suc zero) x l = refl
  sent_to a (suc (suc b)) x l = absurd (omega arith)

  one_frame : (a : ℕ) (x : Frame) → a < 2 → length (sent a (get_or h.chart.rows a 0) x) ≡ 1
  one_frame a x l =
      let e : a + (1 - a) ≡ 1 = omega arith in
      ap (λ (s : ℕ). length (sent a s x)) (only_row a (1 - a) e) ∙ sent_to a (1 - a) x (omega arith)

record SaysNew {L : Type 0} (m : L → links.Meaning) (d : Direct L) (a : ℕ) (x : Note) (d' : Direct L) : Type 0 where
  waiting : (means m d').waiting ≡ (means m d).waiting + 1
  heard : Adds (means m d) a a x (means m d')
  complete : d'.complete ≡ d.complete

says_new : {L : Type 0} (m : L → links.Meaning) (d d' : Direct L) (a : ℕ) (x : Note) → d.complete.chart.n ≡ 2 → a < 2
    → (means m d).heard a a x ≡ false → SaysDirect m d a x (Ok tt) d' → SaysNew m d a x d'
says_new m d d' a x two l new says =
    let s = says.0.2 new in
    let frame = own_frame a x in
    record {
      waiting = omega (arith, ap length s.put.waiting, length-append (m d.store.links).waiting (sent a (get_or d.complete.chart.rows a 0) frame), one_frame d.complete two a frame l);
      heard = record { at = heard-held d.store.table.at a a x d'.store.table.at s.held };
      complete = says.2;
    }

-- ---- the turn of who sends

abbrev echoed : ℕ → ℕ → Tally
echoed c w = record { echo = first c w (λ a. None); ready = λ a. None; delivered = None }

abbrev after_send : ℕ → ℕ → Turn
after_send c w = record { echoes = true; readies = false; delivers = false; after = echoed c w }

-- the votes for w of 0 alone, and of 1 alone; a word is itself, but that does not compute
few_first : (b : Bool) → leb 2 (count (union (union 0 (cond b (only 0) 0)) 0)) ≡ false
few_first true = ap (leb 2) (count-only 0)
few_first false = ap (leb 2) count-zero

few_second : (b : Bool) → leb 2 (count (union 0 (cond b (only 1) 0))) ≡ false
few_second true = ap (leb 2) (count-only 1)
few_second false = ap (leb 2) count-zero

one_backer : (c w : ℕ) → c < 2 → leb (quorum 2 0) (backers 2 (first c w (λ a. None)) w) ≡ false
unfolding backers first passing
one_backer zero w l = few_first (eqb w w)
one_backer (suc zero) w l = few_second (eqb w w)
one_backer (suc (suc c)) w l = absurd (omega arith)

-- the turn, by whether a Ready is due
turn_by : ℕ → ℕ → Bool → Turn
turn_by c w due =
    let ready = cond due (first c w (λ a. None)) (λ a. None) in
    let delivers = due && (leb 1 (backers 2 ready w) && true) in
    record {
      echoes = true;
      readies = due;
      delivers = delivers;
      after = record { echo = first c w (λ a. None); ready = ready; delivered = cond delivers (Some w) None };
    }

turn_is : (c w : ℕ) → c < 2 → hear 2 0 c c w blank Send ≡ after_send c w
unfolding hear turn_by
turn_is c w l = ap (λ (b : Bool). turn_by c w (b && true)) (one_backer c w l)

-- ---- what was said

abbrev once_voted : ℕ → ℕ → ℕ → ℕ → ℕ → ℕ → Tally
once_voted c k w p o j = cond (here c c k p o j) (echoed c w) blank

one_said : (c k w : ℕ) → c < 2 → k ≤ 3 → total_said 2 (once_voted c k w) ≡ 1
unfolding sum first
one_said zero zero w l m = refl
one_said zero (suc zero) w l m = refl
one_said zero (suc (suc zero)) w l m = refl
one_said zero (suc (suc (suc zero))) w l m = refl
one_said (suc zero) zero w l m = refl
one_said (suc zero) (suc zero) w l m = refl
one_said (suc zero) (suc (suc zero)) w l m = refl
one_said (suc zero) (suc (suc (suc zero))) w l m = refl
one_said c (suc (suc (suc (suc k)))) w l m = absurd (omega arith)
one_said (suc (suc c)) k w l m = absurd (omega arith)

-- ---- the toil

first_turn : (s : State) (c k w : ℕ) → s.carrier.n ≡ 2 → s.carrier.f ≡ 0 → Empty s.ledger → c < 2 → turn s c c (note Send c k w) ≡ after_send c w
first_turn s c k w two none empty l = (λ i. hear (two i) (none i) c c w (empty.votes c c k i) Send) ∙ turn_is c w l

-- an Echo is no Send
not_the_send : (b : Bool) (c k w : ℕ) → (b && (b && same_note (note Send c k w) (note Echo c k w))) ≡ false
not_the_send true c k w = refl
not_the_send false c k w = refl

toil_is : (s : State) → s.carrier.n ≡ 2 → s.carrier.waiting ≡ 2 → s.carrier.toil ≡ 2 → total_said 2 s.ledger.votes ≡ 1 → OneOrdered s
toil_is s two waiting toil said =
    let n = s.carrier.n in
    let all : total_said n s.ledger.votes ≡ 1 = ap (λ (i : ℕ). total_said i s.ledger.votes) two ∙ said in
    record {
      waiting = waiting;
      said = all;
      toil = ap (λ (i : ℕ). s.carrier.toil + 7 * (8 * (i * i) - total_said n s.ledger.votes)) two ∙ omega (arith, toil, all);
    }

pub toil_of_two : {L M : Type 0} (m : L → links.Meaning) (ks : List Kind) → ToilOfTwo M m ks
toil_of_two {L} m ks l chart d x x' c k w told two opened opens step =
    let s = state_of (means m) x in
    let send = note Send c k w in
    let echo = note Echo c k w in
    -- the flight before
    let whole : x.carrier.complete ≡ chart = ap (λ (z : Direct L). z.complete) opens.carrier ∙ opened.complete in
    let size : s.carrier.n ≡ 2 = ap (λ (z : CompleteChart). z.chart.n) whole ∙ two in
    let none : s.carrier.f ≡ 0 = omega (arith, x.carrier.complete.enough, size) in
    let sound : Sound m x.carrier = subst (Sound m) (sym opens.carrier) opened.kept in
    let unheard : (y : Note) → s.carrier.heard c c y ≡ false = λ y. ap (λ (z : Direct L). (means m z).heard c c y) opens.carrier ∙ opened.fresh.heard c c y in
    let idle : s.carrier.waiting ≡ 0 = ap (λ (z : Direct L). (means m z).waiting) opens.carrier ∙ opened.fresh.waiting in
    -- the order
    let answered = step.call.step sound in
    let passed = order_passed ks s c k w answered.0 in
    let craft : c < 2 = omega (arith, passed.craft, size) in
    let own : turn s c c send ≡ after_send c w = first_turn s c k w size none opens.empty craft in
    -- its Send is said
    let exact = step.exact sound in
    let between = exact.0 in
    let sends : SaysNew m x.carrier c send between = says_new m x.carrier between c send size craft (unheard send) exact.1 in
    let size₁ : (means m between).n ≡ 2 = ap (λ (z : CompleteChart). z.chart.n) sends.complete ∙ size in
    let unheard₁ : (means m between).heard c c echo ≡ false =
    sends.heard.at c c echo ∙ ap (λ (b : Bool). b || (eqb c c && (eqb c c && same_note send echo))) (unheard echo) ∙ not_the_send (eqb c c) c k w in
    -- its Echo is said
    let spoke = subst (λ (u : Turn). SaidAll (SaysDirect m) between c (notes_said u c k w) x'.carrier) own exact.2 in
    let after = spoke.0 in
    let echoes : SaysNew m between c echo after = says_new m between after c echo size₁ craft unheard₁ spoke.1 in
    -- the flight after
    let s' = state_of (means m) x' in
    let last : x'.carrier ≡ after = spoke.2 in
    let size₂ : s'.carrier.n ≡ 2 = ap (λ (z : Direct L). (means m z).n) last ∙ ap (λ (z : CompleteChart). z.chart.n) echoes.complete ∙ size₁ in
    let waiting : s'.carrier.waiting ≡ 2 = ap (λ (z : Direct L). (means m z).waiting) last ∙ omega (arith, echoes.waiting, sends.waiting, idle) in
    let votes : (p o j : ℕ) → s'.ledger.votes p o j ≡ once_voted c k w p o j =
    λ p o j. answered.1.voted.votes p o j ∙ (λ i. cond (here c c k p o j) (own i).after (opens.empty.votes p o j i)) in
    toil_is s' size₂ waiting waiting ((λ i. total_said 2 (λ p o j. votes p o j i)) ∙ one_said c k w craft passed.number)
