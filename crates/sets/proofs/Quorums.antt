-- Two quorums share more than the faulty craft, the craft that are not faulty make a quorum, and all laws of counting.
-- Assumes nothing.
use Rattle.std.proofs.Common.{◌≡◌, ℕ, ◌+◌, ◌-◌, ◌*◌, ◌^◌, ◌<◌, ◌≤◌, refl, arith}
use lib.Count.{count_trailing_zeros}
use Rattle.sets.specs.Sets.{bit, In, shared, count}
use Rattle.sets.specs.Quorums.{quorum, Counting}
use Rattle.sets.proofs.Members.{shared_in, same_members}
use Rattle.sets.proofs.Counts.{count-union-shared, count-union, count-shared, count-width, count_within, one_outside}
use Rattle.sets.proofs.LowestMember.{lowest_below, lowest_member, cleared_trailing, in_cleared, cleared_in, count_cleared}

pub quorums_share : (n f a b : ℕ) → a < 2 ^ n → b < 2 ^ n → quorum n f ≤ count a → quorum n f ≤ count b → f + 1 ≤ count (shared a b)
quorums_share n f a b ha hb qa qb = omega (arith, count-shared n a b ha hb)

-- two quorums share one outside every set of at most f
pub quorum_witness : (n f a b s : ℕ) → a < 2 ^ n → b < 2 ^ n → quorum n f ≤ count a → quorum n f ≤ count b → count s ≤ f → (i : ℕ) × In i a × In i b × (bit s i ≡ 0)
quorum_witness n f a b s la lb qa qb few =
    let r = one_outside f (shared a b) s (omega (arith, quorums_share n f a b la lb qa qb)) few in
    let p = shared_in a b r.0 r.1 in
    (r.0, p.0, p.1, r.2)

pub quorum_reached : (n f : ℕ) → 3 * f < n → quorum n f ≤ n - f
quorum_reached n f h = omega arith

pub more_than_twice : (n f : ℕ) → 3 * f < n → 2 * f + 1 ≤ n - f
more_than_twice n f h = omega arith

pub counting : Counting
counting = record {
  same_members = same_members;
  union_and_shared = count-union-shared;
  union_most = count-union;
  subset_most = count_within;
  labels_most = count-width;
  quorums_share = quorums_share;
  one_outside = λ f a b h l. let r = one_outside f a b h l in (r.0, r.1, λ e. omega (arith, r.2));
  quorum_reached = quorum_reached;
  more_than_twice = more_than_twice;
  lowest_below = lowest_below;
  lowest_member = lowest_member;
  cleared = cleared_trailing;
  cleared_keeps = λ k m i p h. in_cleared (count_trailing_zeros k m) m i (lowest_member k m p h);
  cleared_has = λ k m i p h. cleared_in (count_trailing_zeros k m) m i (lowest_member k m p h);
  cleared_count = count_cleared;
  of_four = refl;
  of_eight = refl;
}
