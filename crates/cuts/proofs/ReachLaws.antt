-- What rounds reach is what walks reach. Assumes nothing.
--   within_same      a subset that counts no less is the whole set
--   around_in, in_around   who is named by a member of the set
--   around_none, around_with, around_without   the same, one craft after the other
--   rounds_none, rounds_more   the start, and one round more
--   rounds_joined    what is reached is at the end of a walk
--   walk_rounds      what is at the end of a walk is reached
--   reached_by_walks_lem, decides_reached, decides_parted   the closure and the test of it are exact
use Rattle.std.proofs.Common.{◌≡◌, ℕ, zero, suc, ◌+◌, ◌-◌, ◌<◌, ◌≤◌, true, false, cond, ◌⊎◌, List, get_or, Decides, sym, refl, ap, ◌∙◌, subst, inl, inr, ⊎_elim, add-one, arith, pow_pos}
use lib.Bits.{or_zero_r}
use Rattle.std.proofs.lemmas.Bool.{cases_lt, cases_eq, cond-true, cond-false}
use Rattle.std.proofs.lemmas.Bool.Decides.{Decides-like, Decides-not}
use Rattle.sets.specs.Sets.{bit, In, Within, has, union, less, only, one_of, adding, below, count}
use Rattle.sets.proofs.Bits.{bit-zero, bit-only, bit_below}
use Rattle.sets.proofs.Members.{in_has, bit_lacks, cases_in, has_decides, same_members, within_by, within_in, within_lt, union_within, union_within_left, union_within_right, union_in, less_in, in_less, only_in, only_within, one_of-below, one_of_past}
use Rattle.sets.proofs.Counts.{count-only, count-width, count_within, count-adding}
use Rattle.charts.specs.Rows.{Linked, Bounded}
use Rattle.cuts.specs.Walks.{Out, Walk, here, on, Joined, Parts}
use Rattle.cuts.specs.Reach.{around, grown, rounds, reached, parted}
use Rattle.cuts.specs.Laws.{ReachedByWalks}
use Rattle.cuts.proofs.WalkLaws.{walk_start, walk_end, walk_below}

-- ---- sets

pub within_same : (a b : ℕ) → Within a b → count b ≤ count a → a ≡ b
within_same a b w h = same_members a b (λ i p. within_in a b i w p) (λ i p. ⊎_elim
    (λ (q : In i a). q)
    (λ (o : bit a i ≡ 0). absurd (omega (
      arith,
      count-adding i a o,
      count_within (adding i a) b (union_within a (only i) b w (only_within i b p)),
    )))
    (cases_in a i))

moved : (a b i : ℕ) → a ≡ b → In i a → In i b
moved a b i e h = sym (ap (λ (x : ℕ). bit x i) e) ∙ h

in_left : (a b i : ℕ) → In i a → In i (union a b)
in_left a b i h = within_in a (union a b) i (union_within_left a b) h

in_right : (a b i : ℕ) → In i b → In i (union a b)
in_right a b i h = within_in b (union a b) i (union_within_right a b) h

one_of_in : (n u v : ℕ) → In v (one_of n u) → (u < n) × (u ≡ v)
one_of_in n u v h = ⊎_elim
    (λ (l : u < n). (l, only_in u v (moved (one_of n u) (only u) v (one_of-below n u l) h)))
    (λ g. absurd (omega (arith, bit-zero v, moved (one_of n u) 0 v (one_of_past n u g) h))) (cases_lt u n)

-- ---- the neighbours of a set

module _ (rows : List ℕ) (s w : ℕ) where
  pub around_in : (k : ℕ) → In w (around rows s k) → (i : ℕ) × (i < k) × In i s × Linked rows i w
  unfolding around
  around_in zero h = absurd (omega (arith, bit-zero w))
  around_in (suc k) h = ⊎_elim
      (λ (p : In w (around rows s k)). let r = around_in k p in (r.0, omega (arith, r.1), r.2, r.3))
      (λ (p : In w (cond (has s k) (get_or rows k 0) 0)). ⊎_elim
      (λ (q : In k s). (k, omega arith, q, moved _ _ w (cond-true (has s k) (get_or rows k 0) 0 (in_has s k q)) p))
      (λ (q : bit s k ≡ 0). absurd (omega (arith, bit-zero w, moved _ _ w (cond-false (has s k) (get_or rows k 0) 0 (bit_lacks s k q)) p)))
      (cases_in s k))
      (union_in (around rows s k) (cond (has s k) (get_or rows k 0) 0) w h)

  pub in_around : (k i : ℕ) → i < k → In i s → Linked rows i w → In w (around rows s k)
  unfolding around
  in_around zero i l p q = absurd (omega arith)
  in_around (suc k) i l p q = ⊎_elim
      (λ (e : i ≡ k). in_right (around rows s k) (cond (has s k) (get_or rows k 0) 0) w
      (moved _ _ w (ap (λ (x : ℕ). get_or rows x 0) e ∙ sym (cond-true (has s k) (get_or rows k 0) 0 (in_has s k (subst (λ (x : ℕ). In x s) e p)))) q))
      (λ ne. in_left (around rows s k) (cond (has s k) (get_or rows k 0) 0) w (in_around k i (omega arith) p q)) (cases_eq i k)

module _ (rows : List ℕ) (s : ℕ) where
  around-step : (k : ℕ) → around rows s (k + 1) ≡ union (around rows s k) (cond (has s k) (get_or rows k 0) 0)
  unfolding around
  around-step k = ap (around rows s) (add-one k)

  pub around_none : around rows s 0 ≡ 0
  unfolding around
  around_none = refl

  pub around_with : (k : ℕ) → has s k ≡ true → around rows s (k + 1) ≡ union (around rows s k) (get_or rows k 0)
  around_with k e = around-step k ∙ ap (λ (x : ℕ). union (around rows s k) x) (cond-true (has s k) (get_or rows k 0) 0 e)

  pub around_without : (k : ℕ) → has s k ≡ false → around rows s (k + 1) ≡ around rows s k
  around_without k e =
      around-step k ∙ ap (λ (x : ℕ). union (around rows s k) x) (cond-false (has s k) (get_or rows k 0) 0 e) ∙ or_zero_r (around rows s k)

-- ---- rounds

module _ (n : ℕ) (rows : List ℕ) (avoid u : ℕ) where
  pub rounds_none : rounds n rows avoid u 0 ≡ less (one_of n u) avoid
  unfolding rounds
  rounds_none = refl

  next : (k : ℕ) → rounds n rows avoid u (suc k) ≡ less (union (rounds n rows avoid u k) (around rows (rounds n rows avoid u k) n)) avoid
  unfolding rounds grown
  next k = refl

  pub rounds_more : (k : ℕ) → rounds n rows avoid u (k + 1) ≡ less (union (rounds n rows avoid u k) (around rows (rounds n rows avoid u k) n)) avoid
  rounds_more k = ap (rounds n rows avoid u) (add-one k) ∙ next k

  pub rounds_joined : (k v : ℕ) → In v (rounds n rows avoid u k) → Joined n rows avoid u v
  rounds_joined zero v h =
      let p = less_in (one_of n u) avoid v (moved _ _ v rounds_none h) in
      let q = one_of_in n u v p.0 in
      let o : Out u avoid = subst (λ (x : ℕ). Out x avoid) (sym q.1) p.1 in
      record { from = q.0; walk = subst (λ (x : ℕ). Walk rows avoid u x) q.1 (here o) }
  rounds_joined (suc k) v h =
      let s = rounds n rows avoid u k in
      let p = less_in (union s (around rows s n)) avoid v (moved _ _ v (next k) h) in
      ⊎_elim (λ (q : In v s). rounds_joined k v q)
      (λ (q : In v (around rows s n)).
      let r = around_in rows s v n q in
      let j = rounds_joined k r.0 r.2 in
      record { from = j.from; walk = on j.walk r.3 p.1 })
      (union_in s (around rows s n) v p.0)

  -- each round keeps what was reached
  kept : (k : ℕ) → Within (rounds n rows avoid u k) (rounds n rows avoid u (suc k))
  kept k =
      let s = rounds n rows avoid u k in
      within_by s (rounds n rows avoid u (suc k)) (λ i p.
      moved _ _ i (sym (next k)) (in_less (union s (around rows s n)) avoid i (in_left s (around rows s n) i p) (walk_end (rounds_joined k i p).walk)))

  module _ (b : Bounded n rows) (l : u < n) (out : Out u avoid) where
    start_in : (k : ℕ) → In u (rounds n rows avoid u k)
    start_in zero = moved _ _ u (sym rounds_none) (in_less (one_of n u) avoid u (moved _ _ u (sym (one_of-below n u l)) (bit-only u)) out)
    start_in (suc k) = within_in (rounds n rows avoid u k) (rounds n rows avoid u (suc k)) u (kept k) (start_in k)

    small : (k : ℕ) → count (rounds n rows avoid u k) ≤ n
    small k =
        let s = rounds n rows avoid u k in
        count-width n s (within_lt n s (below n) (within_by s (below n) (λ i p. bit_below n i (walk_below b l (rounds_joined k i p).walk))) (omega (arith, pow_pos n)))

    -- a round that adds nothing, or one craft more for each round
    larger : (k : ℕ) → k < count (rounds n rows avoid u k)
        → (rounds n rows avoid u k ≡ rounds n rows avoid u (suc k)) ⊎ (suc k < count (rounds n rows avoid u (suc k)))
    larger k h = ⊎_elim (λ (p : suc k < count (rounds n rows avoid u (suc k))). inr p)
        (λ p. inl (within_same _ _ (kept k) (omega (arith, p, h)))) (cases_lt (suc k) (count (rounds n rows avoid u (suc k))))

    first_round : 0 < count (rounds n rows avoid u 0)
    first_round = omega (arith, count-only u, count_within (only u) (rounds n rows avoid u 0) (only_within u (rounds n rows avoid u 0) (start_in 0)))

    closing : (k : ℕ) → (rounds n rows avoid u k ≡ rounds n rows avoid u (suc k)) ⊎ (suc k < count (rounds n rows avoid u (suc k)))
    closing zero = larger zero first_round
    closing (suc k) = ⊎_elim
        (λ (e : rounds n rows avoid u k ≡ rounds n rows avoid u (suc k)).
        inl (next k ∙ ap (λ (s : ℕ). less (union s (around rows s n)) avoid) e ∙ sym (next (suc k))))
        (λ h. larger (suc k) h) (closing k)

    -- n - 1 rounds are enough
    closed : rounds n rows avoid u (n - 1) ≡ rounds n rows avoid u (suc (n - 1))
    closed = ⊎_elim (λ (e : rounds n rows avoid u (n - 1) ≡ rounds n rows avoid u (suc (n - 1))). e)
        (λ h. absurd (omega (arith, h, small (suc (n - 1))))) (closing (n - 1))

    pub walk_rounds : {v : ℕ} → Walk rows avoid u v → In v (rounds n rows avoid u (n - 1))
    walk_rounds (here o) = start_in (n - 1)
    walk_rounds {v = v} (on {v = m} w k o) =
        let s = rounds n rows avoid u (n - 1) in
        moved _ _ v (sym (next (n - 1)) ∙ sym closed)
        (in_less (union s (around rows s n)) avoid v (in_right s (around rows s n) v (in_around rows s v n m (walk_below b l w) (walk_rounds w) k)) o)

pub reached_by_walks_lem : ReachedByWalks
unfolding reached
reached_by_walks_lem n rows avoid u v b = (
  rounds_joined n rows avoid u (n - 1) v,
  λ j. walk_rounds n rows avoid u b j.from (walk_start j.walk) j.walk,
)

-- ---- as tests

module _ (n : ℕ) (rows : List ℕ) (b : Bounded n rows) (avoid u v : ℕ) where
  pub decides_reached : Decides (has (reached n rows avoid u) v) (Joined n rows avoid u v)
  decides_reached =
      let w = reached_by_walks_lem n rows avoid u v b in
      Decides-like (has (reached n rows avoid u) v) w.0 w.1 (has_decides (reached n rows avoid u) v)

  pub decides_parted : u < n → Decides (parted n rows u v avoid) (Parts rows u v avoid)
  decides_parted l = Decides-not (has (reached n rows avoid u) v)
      (Decides-like (has (reached n rows avoid u) v) (λ j. j.walk) (λ w. record { from = l; walk = w }) decides_reached)
