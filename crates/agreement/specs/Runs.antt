-- Whole runs of a flight, and what is read off the events of a run. Assumes nothing.
--   Empty       a ledger with no votes, orders, slips or bookings
--   Opening     a fresh carrier and an empty ledger
--   Run         every list of calls with their answers, the newest first, each from what the one before left; the carrier is lawful throughout
--   Tells       the answer of this event, an accepted order or carry, tells p that o's order number k is w
--   Books       this event is an accepted book by p under o's number k, and the line that its buffer holds then at its place is the one of the word w
--   Orders      this event is an accepted order of w by o, under the number k
--   Misleads    this event is an accepted meddle by i
--   SomeOf      some event of a list does
--   Delivered, Booked, Ordered, Astray
--               some event of the list tells, books, orders, misleads
--   Carry       this event is a carry, accepted or refused
--   Carries     a list of carries alone
--   accepted, accepted_in
--               1 for an accepted call and 0 for a refused one; how many calls of a list are accepted
use Rattle.std.specs.Prelude.{◌≡◌, ℕ, ◌+◌, ◌^◌, ◌<◌, false, ◌⊎◌, List, [], ◌∷◌, Some}
use Rattle.matter.specs.Layouts.{Kind}
use Rattle.frames.specs.Lines.{line, line_at}
use Rattle.agreement.specs.Meanings.{Lawful, Fresh}
use Rattle.agreement.specs.Votes.{blank}
use Rattle.agreement.specs.Flights.{State, Ledger, Event, ordered, moved, heard, meddled, collected, booked, returned, refused, order, carry, meddle, collect, book, put_back, Answered}

pub record Empty (b : Ledger) : Type 0 where
  pub votes : (c o k : ℕ) → b.votes c o k ≡ blank
  pub ordered : (c k : ℕ) → b.ordered c k ≡ false
  pub out : (c o k : ℕ) → b.out c o k ≡ false
  pub booked : (c o k : ℕ) → b.booked c o k ≡ false

pub record Opening (s : State) : Type 0 where
  pub fresh : Fresh s.carrier
  pub empty : Empty s.ledger

pub data Run (g : ℕ) (ks : List Kind) : State → List Event → State → Type 0 where
  still : {s : State} → Lawful s.carrier → Run g ks s [] s
  then : {s t u : State} {es : List Event} {e : Event} → Run g ks s es t → Answered g ks t e u → Lawful u.carrier → Run g ks s (e ∷ es) u

abbrev pub Tells : Event → ℕ → ℕ → ℕ → ℕ → Type 0
Tells (ordered c j v d) p o k w = d ≡ Some (record { craft = p; origin = o; number = k; word = w })
Tells (moved i) p o k w = ⊥
Tells (heard i l a t d) p o k w = d ≡ Some (record { craft = p; origin = o; number = k; word = w })
Tells (meddled c to x) p o k w = ⊥
Tells (collected c b j) p o k w = ⊥
Tells (booked c b j place buffer after) p o k w = ⊥
Tells (returned c b j) p o k w = ⊥
Tells (refused c v) p o k w = ⊥

abbrev pub Books : Event → ℕ → ℕ → ℕ → ℕ → Type 0
Books (ordered c j v d) p o k w = ⊥
Books (moved i) p o k w = ⊥
Books (heard i l a t d) p o k w = ⊥
Books (meddled c to x) p o k w = ⊥
Books (collected c b j) p o k w = ⊥
Books (booked c b j place buffer after) p o k w = (c ≡ p) × (b ≡ o) × (j ≡ k) × (w < 2 ^ 64) × (line_at after place ≡ line p o k w)
Books (returned c b j) p o k w = ⊥
Books (refused c v) p o k w = ⊥

abbrev pub Orders : Event → ℕ → ℕ → ℕ → Type 0
Orders (ordered c j v d) o k w = (c ≡ o) × (j ≡ k) × (v ≡ w)
Orders (moved i) o k w = ⊥
Orders (heard i l a t d) o k w = ⊥
Orders (meddled c to x) o k w = ⊥
Orders (collected c b j) o k w = ⊥
Orders (booked c b j place buffer after) o k w = ⊥
Orders (returned c b j) o k w = ⊥
Orders (refused c v) o k w = ⊥

abbrev pub Misleads : Event → ℕ → Type 0
Misleads (ordered c j v d) i = ⊥
Misleads (moved x) i = ⊥
Misleads (heard x l a t d) i = ⊥
Misleads (meddled c to x) i = c ≡ i
Misleads (collected c b j) i = ⊥
Misleads (booked c b j place buffer after) i = ⊥
Misleads (returned c b j) i = ⊥
Misleads (refused c v) i = ⊥

abbrev pub SomeOf : (Event → Type 0) → List Event → Type 0
SomeOf P [] = ⊥
SomeOf P (e ∷ es) = P e ⊎ SomeOf P es

abbrev pub Delivered : List Event → ℕ → ℕ → ℕ → ℕ → Type 0
Delivered es p o k w = SomeOf (λ e. Tells e p o k w) es

abbrev pub Booked : List Event → ℕ → ℕ → ℕ → ℕ → Type 0
Booked es p o k w = SomeOf (λ e. Books e p o k w) es

abbrev pub Ordered : List Event → ℕ → ℕ → ℕ → Type 0
Ordered es o k w = SomeOf (λ e. Orders e o k w) es

abbrev pub Astray : List Event → ℕ → Type 0
Astray es i = SomeOf (λ e. Misleads e i) es

abbrev pub Carry : Event → Type 0
Carry (ordered c j v d) = ⊥
Carry (moved i) = Unit {0}
Carry (heard i l a t d) = Unit {0}
Carry (meddled c to x) = ⊥
Carry (collected c b j) = ⊥
Carry (booked c b j place buffer after) = ⊥
Carry (returned c b j) = ⊥
Carry (refused (order c j v) x) = ⊥
Carry (refused (carry i) x) = Unit {0}
Carry (refused (meddle c to y) x) = ⊥
Carry (refused (collect c b j) x) = ⊥
Carry (refused (book c b j place buffer) x) = ⊥
Carry (refused (put_back c b j) x) = ⊥

abbrev pub Carries : List Event → Type 0
Carries [] = Unit {0}
Carries (e ∷ es) = Carry e × Carries es

abbrev pub accepted : Event → ℕ
accepted (ordered c j v d) = 1
accepted (moved i) = 1
accepted (heard i l a t d) = 1
accepted (meddled c to x) = 1
accepted (collected c b j) = 1
accepted (booked c b j place buffer after) = 1
accepted (returned c b j) = 1
accepted (refused c v) = 0

abbrev pub accepted_in : List Event → ℕ
accepted_in [] = 0
accepted_in (e ∷ es) = accepted e + accepted_in es
