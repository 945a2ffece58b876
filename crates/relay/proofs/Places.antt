-- Lists by their places, and the keys of a relay. Assumes nothing.
--   rest_at, rest_past          what is left of a list from a place on
--   starts_at, starts_past      what it starts with
--   share_last, share_before, share_past   what its first adds to a sum: its value if it does not come again, else nothing
--   among_here, among_on, sum_on   a test and a sum over what is left, one place on
--   sums_exchanged   the sum over craft of sums over keys
--   left_of, right_of   a place in two lists, one behind the other
--   keys_few         how many keys there are at most
--   set_on, set_over   a label set more: covered, it adds nothing to the uncovered, and else 1
--   row_key          the key of a row at a place
--   shelf_here, shelf_before   a place among the rows of one shelf, and among those of the shelves before it
use Rattle.std.proofs.Common.{◌≡◌, ℕ, zero, suc, ◌+◌, ◌-◌, ◌*◌, ◌<◌, ◌≤◌, Bool, true, false, ◌||◌, cond, List, [], ◌∷◌, ◌++◌, length, drop, get_or, Some, None, sym, refl, ap, ◌∙◌, subst, ⊎_elim, arith}
use Rattle.std.specs.List.{slice_get}
use Rattle.std.proofs.lemmas.List.{drop_all, drop_more, length-append, length-map}
use Rattle.std.proofs.lemmas.Option.{slice_get_within, get_or_from_slice_get, slice_get_cases, none-some}
use Rattle.sets.specs.Sets.{labels}
use Rattle.frames.specs.declared.notes.Note.{Note}
use Rattle.shelves.specs.declared.kinds.Row.{Row}
use Rattle.shelves.specs.declared.kinds.Shelf.{Shelf}
use Rattle.shelves.specs.Rows.{covered}
use Rattle.shelves.specs.Shelves.{rows_at, shelf_at}
use Rattle.shelves.specs.Lengths.{shelf_length}
use Rattle.cuts.specs.declared.passed.PassedChart.{PassedChart}
use Rattle.pathsets.specs.Keys.{sets_of}
use Rattle.pathsets.proofs.RowSets.{covered_sets}
use Rattle.relaying.specs.Distinct.{among, sum_distinct}
use Rattle.relaying.specs.Toil.{Key, key_of, keys, uncovered, total, shelf_keys, shelves_keys, waiting_keys}
use Rattle.carriers.specs.Parts.{Parts}
use Rattle.relay.specs.Relays.{setting, state}
use Rattle.relay.specs.Toils.{starts_with, share}

-- ---- what is left of a list

module _ {X : Type 0} where
  pub rest_at : (xs : List X) (i : ℕ) (x : X) → slice_get xs i ≡ Some x → drop i xs ≡ x ∷ drop (i + 1) xs
  rest_at xs i x h = drop_more xs i x (slice_get_within xs i x h) ∙ ap (λ (y : X). y ∷ drop (i + 1) xs) (get_or_from_slice_get xs i x x h)

  pub rest_past : (xs : List X) (i : ℕ) → slice_get xs i ≡ None → drop i xs ≡ []
  rest_past xs i h = ⊎_elim
      (λ (p : (x : X) × (i < length xs) × (slice_get xs i ≡ Some x) × (get_or xs i x ≡ x)). absurd (none-some p.0 (sym h ∙ p.2)))
      (λ p. drop_all i xs p.0) (slice_get_cases xs i).1

module _ {K : Type 0} (eq : K → K → Bool) where
  pub starts_at : (k : K) (ks : List K) (i : ℕ) (j : K) → slice_get ks i ≡ Some j → starts_with eq k (drop i ks) ≡ eq k j
  starts_at k ks i j h = ap (λ (l : List K). starts_with eq k l) (rest_at ks i j h)

  pub starts_past : (k : K) (ks : List K) (i : ℕ) → slice_get ks i ≡ None → starts_with eq k (drop i ks) ≡ false
  starts_past k ks i h = ap (λ (l : List K). starts_with eq k l) (rest_past ks i h)

  module _ (g : K → ℕ) (ks : List K) (i : ℕ) where
    share_at : (k : K) (b : Bool) → slice_get ks i ≡ Some k → among eq k (drop (i + 1) ks) ≡ b → share eq g (drop i ks) ≡ cond b 0 (g k)
    share_at k b h again = ap (λ (l : List K). share eq g l) (rest_at ks i k h) ∙ ap (λ (c : Bool). cond c 0 (g k)) again

    pub share_last : (k : K) → slice_get ks i ≡ Some k → among eq k (drop (i + 1) ks) ≡ false → share eq g (drop i ks) ≡ g k
    share_last k = share_at k false

    pub share_before : (k : K) → slice_get ks i ≡ Some k → among eq k (drop (i + 1) ks) ≡ true → share eq g (drop i ks) ≡ 0
    share_before k = share_at k true

    pub share_past : slice_get ks i ≡ None → share eq g (drop i ks) ≡ 0
    share_past h = ap (λ (l : List K). share eq g l) (rest_past ks i h)

    -- the share of what is left, and the sum one place on
    pub sum_on : sum_distinct eq g (drop i ks) ≡ share eq g (drop i ks) + sum_distinct eq g (drop (i + 1) ks)
    sum_on = ⊎_elim
        (λ (p : (k : K) × (i < length ks) × (slice_get ks i ≡ Some k) × (get_or ks i k ≡ k)). rw (rest_at ks i p.0 p.2) refl)
        (λ p. rw (drop_all i ks p.0, drop_all (i + 1) ks (omega (arith, p.0))) refl)
        (slice_get_cases ks i).1

  module _ (k : K) (ks : List K) (i : ℕ) where
    among_step : (b : Bool) → starts_with eq k (drop i ks) ≡ b → among eq k (drop i ks) ≡ (b || among eq k (drop (i + 1) ks))
    among_step b h = ⊎_elim
        (λ (p : (j : K) × (i < length ks) × (slice_get ks i ≡ Some j) × (get_or ks i j ≡ j)). rw (rest_at ks i p.0 p.2) refl)
        (λ p. rw (drop_all i ks p.0, drop_all (i + 1) ks (omega (arith, p.0))) refl)
        (slice_get_cases ks i).1
        ∙ ap (λ (c : Bool). c || among eq k (drop (i + 1) ks)) h

    module _ (r : Bool) (is : among eq k (drop i ks) ≡ r) where
      pub among_here : starts_with eq k (drop i ks) ≡ true → true ≡ r
      among_here h = sym (among_step true h) ∙ is

      pub among_on : starts_with eq k (drop i ks) ≡ false → among eq k (drop (i + 1) ks) ≡ r
      among_on h = sym (among_step false h) ∙ is

-- ---- the sum over craft of sums over keys

total_zero : (n : ℕ) → total (λ p. 0) n ≡ 0
total_zero zero = refl
total_zero (suc n) = omega (arith, total_zero n)

total_both : (g h : ℕ → ℕ) (n : ℕ) → total (λ p. g p + h p) n ≡ total g n + total h n
total_both g h zero = refl
total_both g h (suc n) = omega (arith, total_both g h n)

total_unless : (b : Bool) (g : ℕ → ℕ) (n : ℕ) → total (λ p. cond b 0 (g p)) n ≡ cond b 0 (total g n)
total_unless true g n = total_zero n
total_unless false g n = refl

pub sums_exchanged : {K : Type 0} (eq : K → K → Bool) (g : ℕ → K → ℕ) (ks : List K) (n : ℕ)
    → total (λ p. sum_distinct eq (g p) ks) n ≡ sum_distinct eq (λ k. total (λ p. g p k) n) ks
sums_exchanged eq g [] n = total_zero n
sums_exchanged eq g (k ∷ ks) n = omega (
  arith,
  total_both (λ p. cond (among eq k ks) 0 (g p k)) (λ p. sum_distinct eq (g p) ks) n,
  total_unless (among eq k ks) (λ p. g p k) n,
  sums_exchanged eq g ks n,
)

-- ---- two lists, one behind the other

module _ {X : Type 0} where
  pub left_of : (xs ys : List X) (i : ℕ) → i < length xs → slice_get (xs ++ ys) i ≡ slice_get xs i
  left_of [] ys i l = absurd (omega arith)
  left_of (x ∷ xs) ys zero l = refl
  left_of (x ∷ xs) ys (suc i) l = left_of xs ys i (omega arith)

  pub right_of : (xs ys : List X) (i j : ℕ) → length xs + i ≡ j → slice_get (xs ++ ys) j ≡ slice_get ys i
  right_of [] ys i j e = let q : j ≡ i = omega (arith, e) in ap (λ (k : ℕ). slice_get ys k) q
  right_of (x ∷ xs) ys i zero e = absurd (omega (arith, e))
  right_of (x ∷ xs) ys i (suc j) e = right_of xs ys i j (omega (arith, e))

-- ---- how many keys there are

as_many : (rs : List Row) → length (shelf_keys rs) ≡ length rs
as_many rs = length-map {B = Key} rs (λ r. (r.author, r.note))

shelves_few : (ss : List Shelf) (n : ℕ) → length (shelves_keys (rows_at ss) n) ≤ shelf_length * n
shelves_few ss zero = omega arith
shelves_few ss (suc p) = omega (arith, length-append (shelf_keys (rows_at ss p)) (shelves_keys (rows_at ss) p), as_many (rows_at ss p), (shelf_at ss p).few, shelves_few ss p)

pub keys_few : (c : PassedChart) (p : Parts) → length (keys (setting c) (state p)) ≤ length p.links.waiting + labels * shelf_length
keys_few c p = omega (
  arith,
  length-append (waiting_keys p.links.waiting) (shelves_keys (rows_at p.shelves) c.chart.n),
  length-map p.links.waiting key_of,
  shelves_few p.shelves c.chart.n,
  c.chart.few,
)

-- ---- label sets

module _ (a : ℕ) (x : Note) (rs : List Row) (m : ℕ) where
  step : (b : Bool) → covered rs a x m ≡ b → uncovered (sets_of a x rs) (m + 1) ≡ cond b 0 1 + uncovered (sets_of a x rs) m
  unfolding uncovered
  step b h =
      let next : suc m ≡ m + 1 = omega arith in
      subst (λ (k : ℕ). uncovered (sets_of a x rs) k ≡ cond b 0 1 + uncovered (sets_of a x rs) m) next
      (ap (λ (d : Bool). cond d 0 1 + uncovered (sets_of a x rs) m) (sym (covered_sets a x m rs) ∙ h))

  pub set_on : covered rs a x m ≡ true → uncovered (sets_of a x rs) (m + 1) ≡ uncovered (sets_of a x rs) m
  set_on h = omega (arith, step true h)

  pub set_over : covered rs a x m ≡ false → uncovered (sets_of a x rs) (m + 1) ≡ uncovered (sets_of a x rs) m + 1
  set_over h = omega (arith, step false h)

-- ---- the rows of one shelf, and those of the shelves before it

pub row_key : (rs : List Row) (i : ℕ) (d : Row) → i < length rs → slice_get (shelf_keys rs) i ≡ Some ((get_or rs i d).author, (get_or rs i d).note)
row_key [] i d l = absurd (omega (arith, l))
row_key (r ∷ rs) zero d l = refl
row_key (r ∷ rs) (suc i) d l = row_key rs i d (omega (arith, l))

module _ (ss : List Shelf) (n p i : ℕ) (q : suc p ≡ n) (rs : List Row) (is : rs ≡ rows_at ss p) where
  own_keys : length (shelf_keys (rows_at ss p)) ≡ length rs
  own_keys = as_many (rows_at ss p) ∙ ap (λ (l : List Row). length l) (sym is)

  pub shelf_here : i < length rs → slice_get (shelves_keys (rows_at ss) n) i ≡ slice_get (shelf_keys rs) i
  shelf_here l = subst (λ (m : ℕ). slice_get (shelves_keys (rows_at ss) m) i ≡ slice_get (shelf_keys rs) i) q
      (left_of (shelf_keys (rows_at ss p)) (shelves_keys (rows_at ss) p) i (omega (arith, l, own_keys))
      ∙ ap (λ (l : List Row). slice_get (shelf_keys l) i) (sym is))

  pub shelf_before : (m j : ℕ) → m ≡ p → j ≡ i - length rs → length rs ≤ i → slice_get (shelves_keys (rows_at ss) n) i ≡ slice_get (shelves_keys (rows_at ss) m) j
  shelf_before m j m_is j_is l = subst (λ (k : ℕ). slice_get (shelves_keys (rows_at ss) k) i ≡ slice_get (shelves_keys (rows_at ss) m) j) q
      (right_of (shelf_keys (rows_at ss p)) (shelves_keys (rows_at ss) p) j i (omega (arith, l, own_keys, j_is))
      ∙ ap (λ (k : ℕ). slice_get (shelves_keys (rows_at ss) k) j) (sym m_is))
