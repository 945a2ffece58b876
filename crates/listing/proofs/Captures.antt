-- The lines of a capture, one after the other. Assumes nothing.
--   lines_end    nothing left, no line
--   lines_cut    a frame that is cut off has the last line
--   lines_more   a whole frame has its line, and the rest its lines
--   in_order     frames one after the other have their lines one after the other
--   next_lines   what stands next has its line, and what is left its lines
--   next_fewer   less is left after it
--   listed_more, listed_all   a turn of a loop over a capture, and its end
use Rattle.std.proofs.Common.{◌≡◌, ◌≢◌, ℕ, zero, suc, ◌+◌, ◌-◌, ◌<◌, ◌≤◌, true, false, List, [], ◌∷◌, ◌++◌, length, get_or, take, drop, codes, Some, None, Ok, Err, Result, Bor, sym, refl, ap, ◌∙◌, append_assoc, arith, length-append, length-drop}
use Rattle.std.specs.Fmt.{digits}
use Rattle.std.proofs.lemmas.List.{append-nil, take_at, drop_at}
use Rattle.std.proofs.lemmas.Bool.{cond-true, cond-false, or_from, or_parts, ne_eqb, eqb-false, le-ltb}
use Rattle.refusals.specs.declared.Fault.{Fault}
use Rattle.refusals.specs.declared.Layer.TheVariants.{Frames}
use Rattle.refusals.specs.declared.Refusal.TheVariants.{Cut}
use Rattle.refusals.specs.Refusals.{fault_text}
use Rattle.frames.specs.declared.notes.Frame.{Frame}
use Rattle.frames.specs.Frames.{frame_bytes}
use Rattle.listing.specs.Text.{line, frame_text, captured_text, short, lines, NextIs, all_bytes, all_lines, InOrder}

pub lines_end : (k n : ℕ) → lines k n [] ≡ []
unfolding lines
lines_end zero n = refl
lines_end (suc k) n = refl

pub lines_cut : (k n : ℕ) (bs : List ℕ) → 0 < length bs → short bs ≡ true → lines (suc k) n bs ≡ line n (codes "refused 14")
unfolding lines
lines_cut k n [] some h = absurd (omega arith)
lines_cut k n (b ∷ bs) some h = cond-true _ _ _ h

pub lines_more : (k n : ℕ) (bs : List ℕ) → 0 < length bs → short bs ≡ false
    → lines (suc k) n bs ≡ line n (frame_text (take (get_or bs 0 0) bs)) ++ lines k (n + 1) (drop (get_or bs 0 0) bs)
unfolding lines
lines_more k n [] some h = absurd (omega arith)
lines_more k n (b ∷ bs) some h = cond-false _ _ _ h

-- a frame in front of other bytes is as long as it says
whole : (f : Frame) (rest : List ℕ) → short (frame_bytes f ++ rest) ≡ false
whole f rest = or_from _ _ (ne_eqb 15 0 (λ e. omega arith)) (le-ltb (length (frame_bytes f ++ rest)) 15 (simp length-append (omega arith)))

listed : (k n : ℕ) (fs : List Frame) → length (all_bytes fs) ≤ k → lines k n (all_bytes fs) ≡ all_lines n fs
listed k n [] h = lines_end k n
listed zero n (f ∷ fs) h = absurd (omega (arith, length-append (frame_bytes f) (all_bytes fs)))
listed (suc k) n (f ∷ fs) h =
    let bytes : List ℕ = frame_bytes f ++ all_bytes fs in
    let l = length-append (frame_bytes f) (all_bytes fs) in
    let few : length (all_bytes fs) ≤ k = omega arith in
    lines_more k n bytes (omega arith) (whole f (all_bytes fs))
    ∙ ap (λ (x : List ℕ). line n (frame_text x) ++ lines k (n + 1) (drop 15 bytes)) (take_at (frame_bytes f) (all_bytes fs) 15 refl)
    ∙ ap (λ (x : List ℕ). line n (frame_text (frame_bytes f)) ++ lines k (n + 1) x) (drop_at (frame_bytes f) (all_bytes fs) 15 refl)
    ∙ ap (λ (x : List ℕ). line n (frame_text (frame_bytes f)) ++ x) (listed k (n + 1) fs few)

pub in_order : InOrder
in_order fs = listed (length (all_bytes fs)) 1 fs (omega arith)

-- what is refused as cut off is told as such
cut_text : fault_text record { layer = Frames; refusal = Cut } ≡ codes "refused 14"
unfolding digits
cut_text = refl

pub next_lines : (k n : ℕ) (bs after : List ℕ) (item : Result (Bor (List ℕ)) Fault) → NextIs bs (Some item) after
    → lines (suc k) n bs ≡ line n (captured_text item) ++ lines k (n + 1) after
next_lines k n bs after (Ok frame) h =
    lines_more k n bs h.0 h.1
    ∙ ap (λ (x : List ℕ). line n (frame_text x) ++ lines k (n + 1) (drop (get_or bs 0 0) bs)) (sym h.2)
    ∙ ap (λ (x : List ℕ). line n (frame_text frame.now) ++ lines k (n + 1) x) (sym h.3)
next_lines k n bs after (Err e) h =
    lines_cut k n bs h.0 h.1
    ∙ sym (append-nil (line n (codes "refused 14")))
    ∙ ap (λ (x : List ℕ). line n x ++ []) (sym cut_text ∙ ap fault_text (sym h.2))
    ∙ ap (λ (l : List ℕ). line n (fault_text e) ++ l) (sym (ap (λ (r : List ℕ). lines k (n + 1) r) h.3 ∙ lines_end k (n + 1)))

pub next_fewer : (bs after : List ℕ) (item : Result (Bor (List ℕ)) Fault) → NextIs bs (Some item) after → length after < length bs
next_fewer bs after (Ok frame) h =
    let some : get_or bs 0 0 ≢ 0 = eqb-false _ _ (or_parts _ _ h.1).0 in
    let left = ap length h.3 ∙ length-drop (get_or bs 0 0) bs in
    omega (arith, h.0)
next_fewer bs after (Err e) h = let left = ap length h.3 in omega (arith, h.0)

-- a loop over a capture of len bytes, i frames on: what is out, and the lines of the rest, are all
module _ (out : List ℕ) (len i : ℕ) (rest after all : List ℕ) (inv : out ++ lines (len - i) (i + 1) rest ≡ all) where
  pub listed_all : NextIs rest None after → out ≡ all
  listed_all h =
      sym (append-nil out)
      ∙ ap (λ (l : List ℕ). out ++ l) (sym (ap (λ (r : List ℕ). lines (len - i) (i + 1) r) h.0 ∙ lines_end (len - i) (i + 1)))
      ∙ inv

  pub listed_more : (item : Result (Bor (List ℕ)) Fault) → i + length rest ≤ len → NextIs rest (Some item) after
      → (out ++ line (i + 1) (captured_text item)) ++ lines (len - (i + 1)) (i + 1 + 1) after ≡ all
  listed_more item room h =
      let few = next_fewer rest after item h in
      let k : len - i ≡ suc (len - (i + 1)) = omega arith in
      append_assoc out (line (i + 1) (captured_text item)) (lines (len - (i + 1)) (i + 1 + 1) after)
      ∙ ap (λ (l : List ℕ). out ++ l) (sym (ap (λ (j : ℕ). lines j (i + 1) rest) k ∙ next_lines (len - (i + 1)) (i + 1) rest after item h))
      ∙ inv
