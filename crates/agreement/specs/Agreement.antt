-- Two craft that are not astray agree, in the whole life of a flight. Assumes nothing.
--   NotAstray    i is a craft, and no accepted meddle of the list is by it
--   Got          the word w of o's order number k was delivered to p, or booked by it
--   OneContent   (a) for one origin and number, whatever p and q got is one word; where the origin is not astray, it ordered that word
--   AtRest       (b) p has a delivery for an origin and a number where q has one, and every order of a craft not astray was delivered to each
--   RestComes    (c) the flight's toil bounds how many of the carries that follow, with no other call between, are accepted
--   Agrees       all three: (a) always, (b) when nothing waits, (c) always
--   Agreement    after every list of calls from an opening, over every carrier that keeps the laws, for matter of any kinds
use Rattle.std.specs.Prelude.{◌≡◌, ℕ, ◌<◌, ◌≤◌, ◌⊎◌, List}
use Rattle.matter.specs.Layouts.{Kind}
use Rattle.agreement.specs.Meanings.{Meaning}
use Rattle.agreement.specs.Flights.{State, Event, flight_toil}
use Rattle.agreement.specs.Runs.{Opening, Run, Delivered, Booked, Ordered, Astray, Carries, accepted_in}

pub record NotAstray (es : List Event) (m : Meaning) (i : ℕ) : Type 0 where
  pub below : i < m.n
  pub never : Astray es i → ⊥

abbrev pub Got : List Event → ℕ → ℕ → ℕ → ℕ → Type 0
Got es p o k w = Delivered es p o k w ⊎ Booked es p o k w

pub record OneContent (es : List Event) (m : Meaning) : Type 0 where
  pub one : (p q o k w v : ℕ) → NotAstray es m p → NotAstray es m q → Got es p o k w → Got es q o k v → w ≡ v
  pub right : (p o k w : ℕ) → NotAstray es m p → NotAstray es m o → Got es p o k w → Ordered es o k w

pub record AtRest (es : List Event) (m : Meaning) : Type 0 where
  pub together : (p q o k : ℕ) → NotAstray es m p → NotAstray es m q → (w : ℕ) × Delivered es p o k w → (w : ℕ) × Delivered es q o k w
  pub arrives : (p o k w : ℕ) → NotAstray es m p → NotAstray es m o → Ordered es o k w → Delivered es p o k w

abbrev pub RestComes : ℕ → List Kind → State → Type 0
RestComes g ks s = (cs : List Event) (s' : State) → Run g ks s cs s' → Carries cs → accepted_in cs ≤ flight_toil g s

pub record Agrees (g : ℕ) (ks : List Kind) (es : List Event) (s : State) : Type 0 where
  pub content : OneContent es s.carrier
  pub rest : s.carrier.waiting ≡ 0 → AtRest es s.carrier
  pub end : RestComes g ks s

abbrev pub Agreement : Type 0
Agreement = (g : ℕ) (ks : List Kind) (s₀ s : State) (es : List Event) → Opening s₀ → Run g ks s₀ es s → Agrees g ks es s
