use Rattle.std.proofs.Common.{◌≡◌, ℕ, ◌+◌, ◌<◌, ◌≤◌, ◌↔◌, Bool, List, [], ◌∷◌, ◌++◌, length, filter, IsOk, OnOk, OnErr, sym, ap, subst, refl, ◌∙◌, arith, length-append}
use Rattle.std.specs.Result.{is_ok}
use Rattle.std.specs.declared.result.Result.{Result}
use Rattle.std.specs.declared.result.Result.TheVariants.{Ok, Err}
use Rattle.std.proofs.lemmas.Bool.{le-ltb, lt-ltb}
use Rattle.arrayvec.specs.ArrayVec.{ArrayVec}
use Rattle.frames.specs.declared.notes.Note.{Note}
use Rattle.shelves.specs.declared.kinds.Row.{Row}
use Rattle.shelves.specs.Lengths.{shelf_length}
use Rattle.shelves.specs.Rows.{stays, row_of}
use Rattle.shelves.specs.Shelves.{Held}
use Rattle.shelves.proofs.Kept.{kept_le, kept_full}
use Rattle.shelves.proofs.kinds.Shelf.hold.Goals as goal

module _ {E : Type 0} (rs : List Row) (a : ℕ) (x : Note) (u : ℕ) (few : length rs ≤ shelf_length) (v w : ArrayVec Row) (rest : v.items ≡ filter (stays a x u) rs) where
  pushed : (r : Result (Unit {0}) E) → (IsOk r ↔ (length v.items < shelf_length)) → OnErr r (length v.items ≡ shelf_length) → OnOk r (w.items ≡ v.items ++ row_of a x u ∷ []) → OnErr r (w ≡ v)
      → Held rs a x u (is_ok r) w.items × (length w.items ≤ length rs + 1)
  pushed (Ok o) variant full ok err =
      let l = ap length rest in
      let n = ap length ok in (
        (
          sym (lt-ltb (length (filter (stays a x u) rs)) shelf_length (omega (arith, variant.0 refl))),
          ok ∙ ap (λ (t : List Row). t ++ row_of a x u ∷ []) rest,
        ),
        omega (arith, kept_le (stays a x u) rs, length-append v.items (row_of a x u ∷ [])),
      )
  pushed (Err e) variant full ok err =
      let l = ap length rest in
      let all = kept_full (stays a x u) rs (omega arith) in
      let same = ap (λ (t : ArrayVec Row). t.items) err ∙ rest ∙ all in
      let n = ap length same in (
        (sym (le-ltb (length (filter (stays a x u) rs)) shelf_length (omega arith)), same),
        omega arith,
      )

pub returns : goal.returns
returns c =
    let t = c.try_push.ensures in
    let both = pushed (c.args.self.now.rows.items) c.args.author c.args.note.now c.args.set c.args.self.now.few c.drop_above.new.self.rows c.try_push.new.self c.drop_above.ensures c.try_push.result t.variant t.full t.ok t.err in
    record {
      rows = subst (λ (b : Bool). Held c.args.self.now.rows.items c.args.author c.args.note.now c.args.set b c.try_push.new.self.items) (sym c.is_ok.ensures.value) both.0;
      more = both.1;
    }
