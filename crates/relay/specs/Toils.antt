-- The toil of a relay, place by place in the list of its keys. Assumes nothing.
--   open_at       how many label sets are open for a key, by the rows of one craft
--   open_below    their sum over the craft below n
--   keys_in       the keys of all that waits and of all rows
--   most_keys     no more keys than that: what a number of 64 bits counts may wait, and there are fewer rows
--   open_in       the open sets for a key, at all craft
--   all_open     their sum over the distinct keys
--   starts_with   whether k is the first of a list, by an equality test
--   standing_at, standing_from   whether a key stands at a place, and at one from there on
--   share         what the first of a list adds to a sum over its distinct elements
--   share_in      what the key at a place adds to the sum over the distinct keys
use Rattle.std.specs.Prelude.{ℕ, ◌^◌, Bool, false, cond, List, [], ◌∷◌, drop}
use Rattle.links.specs.Meanings as links
use Rattle.shelves.specs.declared.kinds.Row.{Row}
use Rattle.shelves.specs.Shelves.{rows_at}
use Rattle.pathsets.specs.Keys.{sets_of}
use Rattle.bases.specs.Parts.{parts}
use Rattle.relaying.specs.Distinct.{among, sum_distinct}
use Rattle.relaying.specs.Toil.{Key, equal, keys, uncovered, label_sets, total}
use Rattle.relay.specs.declared.kinds.Relay.{Relay}
use Rattle.relay.specs.Relays.{setting, state}

abbrev pub open_at : List Row → Key → ℕ
open_at rs k = uncovered (sets_of k.0 k.1 rs) label_sets

abbrev pub open_below : (ℕ → List Row) → ℕ → Key → ℕ
open_below shelf n k = total (λ p. open_at (shelf p) k) n

abbrev pub keys_in : {L : Type 0} → (L → links.Meaning) → Relay L → List Key
keys_in m r = keys (setting r.passed) (state (parts m r.base))

abbrev pub most_keys : ℕ
most_keys = 2 ^ 65

abbrev pub open_in : {L : Type 0} → Relay L → Key → ℕ
open_in r = open_below (rows_at r.base.store.table.at) r.passed.chart.n

abbrev pub all_open : {L : Type 0} → (L → links.Meaning) → Relay L → ℕ
all_open m r = sum_distinct equal (open_in r) (keys_in m r)

abbrev pub starts_with : {K : Type 0} → (K → K → Bool) → K → List K → Bool
starts_with eq k [] = false
starts_with eq k (j ∷ js) = eq k j

abbrev pub standing_at : {L : Type 0} → (L → links.Meaning) → Relay L → ℕ → Key → Bool
standing_at m r i k = starts_with equal k (drop i (keys_in m r))

abbrev pub standing_from : {L : Type 0} → (L → links.Meaning) → Relay L → ℕ → Key → Bool
standing_from m r i k = among equal k (drop i (keys_in m r))

abbrev pub share : {K : Type 0} → (K → K → Bool) → (K → ℕ) → List K → ℕ
share eq g [] = 0
share eq g (k ∷ ks) = cond (among eq k ks) 0 (g k)

abbrev pub share_in : {L : Type 0} → (L → links.Meaning) → Relay L → ℕ → ℕ
share_in m r i = share equal (open_in r) (drop i (keys_in m r))
