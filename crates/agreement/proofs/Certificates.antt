-- A craft that is not astray and says Ready has a certificate: a quorum of Echoes. Assumes nothing.
--   Certificate          a quorum of which all that are not astray have said Echo of w
--   certificate_lasts    it lasts, as more is said and more go astray
--   by_echoes            a quorum of Echoes heard is one, since nothing is invented
--   by_readies           of f + 1 Readies heard one is by a craft that is not astray, which has one
--   certified            so who says Ready has one
use Rattle.std.proofs.Common.{◌≡◌, ℕ, ◌+◌, ◌^◌, ◌<◌, ◌≤◌, true, false, Some, Option, sym, ap, ◌∙◌, arith}
use Rattle.std.proofs.lemmas.Bool.{leb-true, and_parts, not-true, both_ways}
use Rattle.sets.specs.Sets.{count, bit, In, passing}
use Rattle.sets.specs.Quorums.{quorum}
use Rattle.sets.proofs.Passing.{passing_lt, passing_in, one_passes_outside}
use Rattle.frames.specs.declared.notes.Step.{Step}
use Rattle.frames.specs.declared.notes.Step.TheVariants.{Send, Echo, Ready}
use Rattle.frames.specs.Notes.{note}
use Rattle.agreement.specs.Meanings.{Meaning, Honest, Lawful}
use Rattle.agreement.specs.Votes.{Tally, present, is, backers, says_echo, echo_after, ready_heard, ready_due, says_ready, ready_after}
use Rattle.agreement.proofs.FirstVotes.{is_true, present_some}
use Rattle.agreement.proofs.Turns.{grows_own}
use Rattle.agreement.proofs.HeardVotes.{Matches}

-- a quorum of which all that are not astray have echoed w
pub record Certificate (n f : ℕ) (m : Meaning) (o k w : ℕ) : Type 0 where
  pub voters : ℕ
  pub within : voters < 2 ^ n
  pub many : quorum n f ≤ count voters
  pub said : (a : ℕ) → In a voters → bit m.astray a ≡ 0 → m.heard a a (note Echo o k w) ≡ true

-- it lasts: more is said, and more go astray
pub certificate_lasts : {n f : ℕ} {m m' : Meaning} {o k w : ℕ}
    → ((a : ℕ) → m.heard a a (note Echo o k w) ≡ true → m'.heard a a (note Echo o k w) ≡ true)
    → ((a : ℕ) → bit m'.astray a ≡ 0 → bit m.astray a ≡ 0)
    → Certificate n f m o k w → Certificate n f m' o k w
certificate_lasts keeps loyal h = record { voters = h.voters; within = h.within; many = h.many; said = λ a i e. keeps a (h.said a i (loyal a e)) }

module _ (n f : ℕ) (m : Meaning) (o k w : ℕ) (law : Lawful m) (size : m.n ≡ n) (few : count m.astray ≤ f) (l : ℕ) (hl : Honest m l) where
  honest_by : (b : ℕ) → b < n → bit m.astray b ≡ 0 → Honest m b
  honest_by b i j = record { below = omega (arith, i, size); loyal = j }

  -- by a quorum of Echoes
  by_echoes : (F : ℕ → Option ℕ) → Matches m Echo l o k F → quorum n f ≤ backers n F w → Certificate n f m o k w
  unfolding backers
  by_echoes F h e = record {
    voters = passing n (λ b. is (F b) w);
    within = passing_lt n (λ b. is (F b) w);
    many = e;
    said = λ b i j.
        let r = passing_in n (λ c. is (F c) w) b i in
        law.nothing_invented l b (note Echo o k w) hl (honest_by b r.0 j) (h.heard b w (is_true (F b) w r.1));
  }

  -- by f + 1 Readies, of which one is by a craft not astray
  by_readies : (F G : ℕ → Option ℕ) → present (F l) ≡ false → ((b v : ℕ) → F b ≡ Some v → G b ≡ Some v) → Matches m Ready l o k G → f + 1 ≤ backers n F w
      → ((b : ℕ) → Honest m b → (b ≡ l → ⊥) → m.heard b b (note Ready o k w) ≡ true → Certificate n f m o k w) → Certificate n f m o k w
  unfolding backers
  by_readies F G none keeps h e others =
      let r = one_passes_outside n f m.astray (λ b. is (F b) w) (omega (arith, e)) few in
      let b = r.0 in
      let hb = honest_by b r.1 r.3 in
      let v = is_true (F b) w r.2 in
      others b hb (λ q. both_ways (present (F l)) none (ap (λ (i : ℕ). present (F i)) (sym q) ∙ present_some v))
      (law.nothing_invented l b (note Ready o k w) hl hb (h.heard b w (keeps b w v)))

  pub certified : (a : ℕ) (t : Tally) (x : Step) → says_ready n f l a w t x ≡ true
      → Matches m Echo l o k (echo_after n f l a w t x) → Matches m Ready l o k (ready_after n f l a w t x)
      → ((b : ℕ) → Honest m b → (b ≡ l → ⊥) → m.heard b b (note Ready o k w) ≡ true → Certificate n f m o k w) → Certificate n f m o k w
  certified a t Send e he hr others =
      by_echoes (echo_after n f l a w t Send) he (leb-true _ _ (and_parts (says_echo n f l a w t Send) _ (and_parts (ready_due n f l a w t Send) _ e).0).1)
  certified a t Echo e he hr others =
      by_echoes (echo_after n f l a w t Echo) he (leb-true _ _ (and_parts (ready_due n f l a w t Echo) _ e).0)
  certified a t Ready e he hr others =
      by_readies (ready_heard n f l a w t Ready) (ready_after n f l a w t Ready)
      (not-true (present (ready_heard n f l a w t Ready l)) (and_parts (ready_due n f l a w t Ready) _ e).1)
      (grows_own n f l a w t Ready).keeps hr (leb-true _ _ (and_parts (ready_due n f l a w t Ready) _ e).0) others
