-- One craft's votes on the orders of all origins. Assumes nothing.
--   no_orders      votes on no order
--   record_of      what the craft keeps on an order; no votes where there is no such order
--   votes_of       its votes
--   place_of       where the word is
--   same_order     whether two pairs of origin and number are the same
--   NothingHeard   no votes, and nothing delivered
--   RecordPut      one record put in place of another
--   turn_of        what the craft does on hearing a note
--   CraftVotesSet  it heard a note, and its turn is answered: the other orders keep their votes, and no word goes to a slip or a line
--   HeardByCraft   that, of a note for which the votes have a place
--   HeardOfOrigin  the same of the orders of one origin
use Rattle.std.specs.Prelude.{◌≡◌, ℕ, Bool, ◌&&◌, ◌==◌, cond, [], slice_index_or, slice_set}
use Rattle.frames.specs.declared.notes.Note.{Note}
use Rattle.agreement.specs.Votes.{Tally, Turn, blank, hear}
use Rattle.votes.specs.declared.stages.Move.{Move}
use Rattle.votes.specs.declared.stages.Place.{Place}
use Rattle.votes.specs.declared.stages.Place.TheVariants.{Undelivered}
use Rattle.votes.specs.declared.record.Votes.{Votes}
use Rattle.votes.specs.declared.craft_votes.OriginVotes.{OriginVotes}
use Rattle.votes.specs.declared.craft_votes.CraftVotes.{CraftVotes}
use Rattle.votes.specs.Places.{is_out, is_booked}
use Rattle.votes.specs.Ranges.{InTable}
use Rattle.votes.specs.Records.{no_votes, tally, SameSlip, Takes}

abbrev pub no_orders : OriginVotes
no_orders = record { at = [] }

abbrev pub record_of : CraftVotes → ℕ → ℕ → Votes
record_of g o k = slice_index_or (slice_index_or g.at o no_orders).at k no_votes

abbrev pub votes_of : CraftVotes → ℕ → ℕ → Tally
votes_of g o k = tally (record_of g o k)

abbrev pub place_of : CraftVotes → ℕ → ℕ → Place
place_of g o k = (record_of g o k).place

abbrev pub same_order : ℕ → ℕ → ℕ → ℕ → Bool
same_order o k o' k' = o == o' && k == k'

pub record NothingHeard (g : CraftVotes) : Type 0 where
  pub votes : (o k : ℕ) → votes_of g o k ≡ blank
  pub places : (o k : ℕ) → place_of g o k ≡ Undelivered

abbrev pub RecordPut : CraftVotes → ℕ → ℕ → Votes → CraftVotes → Type 0
RecordPut g o k v g' = (o' k' : ℕ) → record_of g' o' k' ≡ cond (same_order o k o' k') v (record_of g o' k')

abbrev pub turn_of : ℕ → ℕ → ℕ → ℕ → Note → CraftVotes → Turn
turn_of n f l a x g = hear n f l a x.content (votes_of g x.origin x.number) x.step

pub record CraftVotesSet (n f l a : ℕ) (x : Note) (g : CraftVotes) (r : Move) (g' : CraftVotes) : Type 0 where
  pub echoes : r.echoes ≡ (turn_of n f l a x g).echoes
  pub readies : r.readies ≡ (turn_of n f l a x g).readies
  pub delivers : r.delivers ≡ (turn_of n f l a x g).delivers
  pub votes : (o k : ℕ) → votes_of g' o k ≡ cond (same_order x.origin x.number o k) (turn_of n f l a x g).after (votes_of g o k)
  pub out : (o k : ℕ) → is_out (place_of g' o k) ≡ is_out (place_of g o k)
  pub booked : (o k : ℕ) → is_booked (place_of g' o k) ≡ is_booked (place_of g o k)

abbrev pub HeardByCraft : ℕ → ℕ → ℕ → ℕ → Note → CraftVotes → Move → CraftVotes → Type 0
HeardByCraft n f l a x g r g' = InTable n l a x → CraftVotesSet n f l a x g r g'

pub record HeardOfOrigin (n f l a : ℕ) (x : Note) (os : OriginVotes) (r : Move) (os' : OriginVotes) : Type 0 where
  pub votes : Votes
  pub turn : Takes (hear n f l a x.content (tally (slice_index_or os.at x.number no_votes)) x.step) r (tally votes)
  pub slip : SameSlip (slice_index_or os.at x.number no_votes) votes
  pub put : os' ≡ record { at = slice_set os.at x.number votes }
