-- A flight over any carrier: its state, its six calls and their answers, the step that each takes, and its toil.
-- The flight is layer 4. Assumes nothing.
--   Ledger        by craft, origin and number: the votes, whether a slip is out, whether the order is booked; by craft and number: whether it was ordered
--   State         a carrier's meaning and a ledger
--   Delivery      the word of an origin's order under a number, as it is told to a craft
--   Call          the six calls with what they take
--   Event         a call with its answer: accepted, in one of six ways (a carry in two), or refused, with what the refusal tells
--   word_cause    why a word is refused, as a cause that holds where there is a refusal
--   least_spare   what has to be spare for a call of a flight: room for what it puts itself, for an Echo and for a Ready
--   tight_causes, tight
--                 less than that is spare (8)
--   collectable   delivered, no slip out, not booked
--   causes        why a call is refused, of matter of the kinds ks: the causes in the order in which they are tested
--                   order      no craft (1), no number (5), no word of these kinds (as the word's reader tells it), ordered before (6), tight (8)
--                   carry      what the carrier refuses but its 8, tight (8)
--                   meddle     what the carrier refuses but its 8, tight (8)
--                   collect    no craft (1), no origin (1), no number (5), not collectable (12)
--                   book       no such slip out (12), and what the writer of the booking line refuses: too short a buffer (13)
--                   put back   no such slip out (12)
--   Accepted      none of them holds
--   Saying        a craft says some notes, one after the other
--   here          whether two triples of craft, origin and number are the same
--   turn          what l does on hearing the note t of a
--   telling       what the answer tells l, where it delivers
--   Voted         l votes on the note t of a, which the carrier, now m, has let it hear; d is what the answer tells
--   SameVotes, SameOrders, SameOut, SameBooked, SameSlips
--                 these parts of the ledger are as they were
--   Ordering, Moving, Hearing, Meddling, Collecting, Booking, Returning
--                 what an accepted order, carry (nobody hears; l hears), meddle, collect, book and put back leaves
--   Answered      one call and its answer: accepted, and it leaves that; or the first cause that holds is told, and nothing changes
--   flag, sum     1 for true and 0 for false; F 0 + .. + F (n - 1)
--   numbers       how many numbers an order can have, which is 4
--   votes_said    the Echoes and Readies, at most one each, that craft p said of one order
--   total_said    the Echoes and Readies that n craft said, of all their orders
--   flight_toil   the carrier's toil, and g for each of the 8n² notes that are not said yet: each craft says an Echo and a Ready of 4n orders at most
use Rattle.std.specs.Prelude.{◌≡◌, ℕ, zero, suc, ◌+◌, ◌-◌, ◌*◌, ◌^◌, ◌<◌, Bool, true, cond, not, ◌&&◌, ◌||◌, List, [], ◌∷◌, ◌++◌, Some, None, Option, ◌==◌, nat_le, nat_lt}
use Rattle.refusals.specs.Refusals.{Told, Cause, cause, refusal}
use Rattle.matter.specs.Layouts.{Kind, word_refusal}
use Rattle.frames.specs.declared.notes.Step.TheVariants.{Send}
use Rattle.frames.specs.declared.notes.Note.{Note}
use Rattle.frames.specs.declared.notes.Frame.{Frame}
use Rattle.frames.specs.Notes.{last_number, note}
use Rattle.frames.specs.Bytes.{placed, place_causes}
use Rattle.frames.specs.Lines.{line, line_length}
use Rattle.agreement.specs.Meanings.{Meaning}
use Rattle.agreement.specs.Carrying.{Said, Quiet, Hears, Meddled, carry_causes, meddle_causes}
use Rattle.agreement.specs.Votes.{Tally, Turn, present, hear, notes_said}

pub record Ledger : Type 0 where
  pub votes : ℕ → ℕ → ℕ → Tally
  pub ordered : ℕ → ℕ → Bool
  pub out : ℕ → ℕ → ℕ → Bool
  pub booked : ℕ → ℕ → ℕ → Bool

pub record State : Type 0 where
  pub carrier : Meaning
  pub ledger : Ledger

pub record Delivery : Type 0 where
  pub craft : ℕ
  pub origin : ℕ
  pub number : ℕ
  pub word : ℕ

-- book takes the buffer that the line is written into, and the place in it; its event has the buffer after, too
pub data Call : Type 0 where
  order : (craft number word : ℕ) → Call
  carry : (index : ℕ) → Call
  meddle : (craft to : ℕ) → Frame → Call
  collect : (craft origin number : ℕ) → Call
  book : (craft origin number place : ℕ) → (buffer : List ℕ) → Call
  put_back : (craft origin number : ℕ) → Call

pub data Event : Type 0 where
  ordered : (craft number word : ℕ) → Option Delivery → Event
  moved : (index : ℕ) → Event
  heard : (index listener author : ℕ) → Note → Option Delivery → Event
  meddled : (craft to : ℕ) → Frame → Event
  collected : (craft origin number : ℕ) → Event
  booked : (craft origin number place : ℕ) → (buffer after : List ℕ) → Event
  returned : (craft origin number : ℕ) → Event
  refused : Call → Told → Event

-- ---- refusals

abbrev pub word_cause : Option Told → List Cause
word_cause None = []
word_cause (Some v) = record { holds = true; tells = v } ∷ []

abbrev pub least_spare : ℕ
least_spare = 3

abbrev pub tight_causes : ℕ → List Cause
tight_causes spare = cause 4 8 (spare ∷ []) (nat_lt spare least_spare) ∷ []

abbrev pub tight : State → List Cause
tight s = tight_causes s.carrier.spare

abbrev pub collectable : Ledger → ℕ → ℕ → ℕ → Bool
collectable b c o k = present (b.votes c o k).delivered && (not (b.out c o k) && not (b.booked c o k))

abbrev pub causes : List Kind → State → Call → List Cause
causes ks s (order c k w) =
    cause 4 1 (c ∷ []) (nat_le s.carrier.n c)
    ∷ cause 4 5 (k ∷ []) (nat_lt last_number k)
    ∷ (word_cause (word_refusal ks w) ++ (cause 4 6 (k ∷ []) (s.ledger.ordered c k) ∷ tight s))
causes ks s (carry i) = carry_causes s.carrier i ++ tight s
causes ks s (meddle c to x) = meddle_causes s.carrier c to ++ tight s
causes ks s (collect c o k) =
    cause 4 1 (c ∷ []) (nat_le s.carrier.n c)
    ∷ cause 4 1 (o ∷ []) (nat_le s.carrier.n o)
    ∷ cause 4 5 (k ∷ []) (nat_lt last_number k)
    ∷ cause 4 12 (k ∷ []) (not (collectable s.ledger c o k))
    ∷ []
causes ks s (book c o k place buffer) = cause 4 12 (k ∷ []) (not (s.ledger.out c o k)) ∷ place_causes buffer place line_length
causes ks s (put_back c o k) = cause 4 12 (k ∷ []) (not (s.ledger.out c o k)) ∷ []

abbrev pub Accepted : List Kind → State → Call → Type 0
Accepted ks s c = refusal (causes ks s c) ≡ None

-- ---- steps

abbrev pub Saying : ℕ → Meaning → ℕ → List Note → Meaning → Type 0
Saying g m p [] m' = m' ≡ m
Saying g m p (t ∷ ts) m' = (m₁ : Meaning) × Said g m p t m₁ × Saying g m₁ p ts m'

abbrev pub here : ℕ → ℕ → ℕ → ℕ → ℕ → ℕ → Bool
here c o k c' o' k' = c == c' && (o == o' && k == k')

abbrev pub turn : State → ℕ → ℕ → Note → Turn
turn s l a t = hear s.carrier.n s.carrier.f l a t.content (s.ledger.votes l t.origin t.number) t.step

abbrev pub telling : Bool → ℕ → Note → Option Delivery
telling b l t = cond b (Some (record { craft = l; origin = t.origin; number = t.number; word = t.content })) None

pub record Voted (g : ℕ) (s : State) (m : Meaning) (l a : ℕ) (t : Note) (d : Option Delivery) (s' : State) : Type 0 where
  pub says : Saying g m l (notes_said (turn s l a t) t.origin t.number t.content) s'.carrier
  pub votes : (c o k : ℕ) → s'.ledger.votes c o k ≡ cond (here l t.origin t.number c o k) (turn s l a t).after (s.ledger.votes c o k)
  pub told : d ≡ telling (turn s l a t).delivers l t

abbrev pub SameVotes : State → State → Type 0
SameVotes s s' = (c o k : ℕ) → s'.ledger.votes c o k ≡ s.ledger.votes c o k

abbrev pub SameOrders : State → State → Type 0
SameOrders s s' = (c k : ℕ) → s'.ledger.ordered c k ≡ s.ledger.ordered c k

abbrev pub SameOut : State → State → Type 0
SameOut s s' = (c o k : ℕ) → s'.ledger.out c o k ≡ s.ledger.out c o k

abbrev pub SameBooked : State → State → Type 0
SameBooked s s' = (c o k : ℕ) → s'.ledger.booked c o k ≡ s.ledger.booked c o k

pub record SameSlips (s s' : State) : Type 0 where
  pub out : SameOut s s'
  pub booked : SameBooked s s'

-- the Send is said, and its author votes on it
pub record Ordering (g : ℕ) (s : State) (c k w : ℕ) (d : Option Delivery) (s' : State) : Type 0 where
  pub between : Meaning
  pub said : Said g s.carrier c (note Send c k w) between
  pub voted : Voted g s between c c (note Send c k w) d s'
  pub orders : (b j : ℕ) → s'.ledger.ordered b j ≡ (s.ledger.ordered b j || (c == b && k == j))
  pub slips : SameSlips s s'

pub record Moving (s s' : State) : Type 0 where
  pub quiet : Quiet s.carrier s'.carrier
  pub ledger : s'.ledger ≡ s.ledger

pub record Hearing (g : ℕ) (s : State) (l a : ℕ) (t : Note) (d : Option Delivery) (s' : State) : Type 0 where
  pub between : Meaning
  pub hears : Hears s.carrier l a t between
  pub voted : Voted g s between l a t d s'
  pub orders : SameOrders s s'
  pub slips : SameSlips s s'

pub record Meddling (s : State) (c : ℕ) (s' : State) : Type 0 where
  pub meddled : Meddled s.carrier c s'.carrier
  pub ledger : s'.ledger ≡ s.ledger

-- a slip goes out
pub record Collecting (s : State) (c o k : ℕ) (s' : State) : Type 0 where
  pub carrier : s'.carrier ≡ s.carrier
  pub votes : SameVotes s s'
  pub orders : SameOrders s s'
  pub out : (c' o' k' : ℕ) → s'.ledger.out c' o' k' ≡ (s.ledger.out c' o' k' || here c o k c' o' k')
  pub booked : SameBooked s s'

-- a slip is spent, and the line of the delivered word is written at the place, over what stood there; every other byte is as it was
pub record Booking (s : State) (c o k place : ℕ) (buffer after : List ℕ) (s' : State) : Type 0 where
  pub word : ℕ
  pub delivered : (s.ledger.votes c o k).delivered ≡ Some word
  pub fits : word < 2 ^ 64
  pub written : after ≡ placed buffer place (line c o k word)
  pub carrier : s'.carrier ≡ s.carrier
  pub votes : SameVotes s s'
  pub orders : SameOrders s s'
  pub out : (c' o' k' : ℕ) → s'.ledger.out c' o' k' ≡ (s.ledger.out c' o' k' && not (here c o k c' o' k'))
  pub booked : (c' o' k' : ℕ) → s'.ledger.booked c' o' k' ≡ (s.ledger.booked c' o' k' || here c o k c' o' k')

-- a slip is spent, and may be collected again
pub record Returning (s : State) (c o k : ℕ) (s' : State) : Type 0 where
  pub carrier : s'.carrier ≡ s.carrier
  pub votes : SameVotes s s'
  pub orders : SameOrders s s'
  pub out : (c' o' k' : ℕ) → s'.ledger.out c' o' k' ≡ (s.ledger.out c' o' k' && not (here c o k c' o' k'))
  pub booked : SameBooked s s'

abbrev pub Answered : ℕ → List Kind → State → Event → State → Type 0
Answered g ks s (ordered c k w d) s' = Accepted ks s (order c k w) × Ordering g s c k w d s'
Answered g ks s (moved i) s' = Accepted ks s (carry i) × Moving s s'
Answered g ks s (heard i l a t d) s' = Accepted ks s (carry i) × Hearing g s l a t d s'
Answered g ks s (meddled c to x) s' = Accepted ks s (meddle c to x) × Meddling s c s'
Answered g ks s (collected c o k) s' = Accepted ks s (collect c o k) × Collecting s c o k s'
Answered g ks s (booked c o k place buffer after) s' = Accepted ks s (book c o k place buffer) × Booking s c o k place buffer after s'
Answered g ks s (returned c o k) s' = Accepted ks s (put_back c o k) × Returning s c o k s'
Answered g ks s (refused c v) s' = (refusal (causes ks s c) ≡ Some v) × (s' ≡ s)

-- ---- toil

abbrev pub flag : Bool → ℕ
flag b = cond b 1 0

unfoldable pub sum : ℕ → (ℕ → ℕ) → ℕ
sum zero F = 0
sum (suc n) F = sum n F + F n

abbrev pub votes_said : Tally → ℕ → ℕ
votes_said t p = flag (present (t.echo p)) + flag (present (t.ready p))

abbrev pub numbers : ℕ
numbers = last_number + 1

abbrev pub total_said : ℕ → (ℕ → ℕ → ℕ → Tally) → ℕ
total_said n votes = sum n (λ p. sum n (λ o. sum numbers (λ k. votes_said (votes p o k) p)))

abbrev pub flight_toil : ℕ → State → ℕ
flight_toil g s = s.carrier.toil + g * (8 * (s.carrier.n * s.carrier.n) - total_said s.carrier.n s.ledger.votes)
