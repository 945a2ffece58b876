use Rattle.std.proofs.Common.{◌≡◌, ◌-◌, ◌<◌, ◌≤◌, length, suc, arith, refl, sym, ap, ◌∙◌}
use Rattle.std.proofs.lemmas.List.{get_or_default}
use Rattle.shelves.specs.declared.kinds.Shelf.{Shelf}
use Rattle.shelves.specs.Shelves.{rows_of, rows_at, empty_shelf}
use Rattle.relay.proofs.Places.{row_key, shelf_here, shelf_before}
use Rattle.relay.proofs.toil.+shelf_key.Goals as goal

pub returns-then-i-rows : goal.returns-then-i-rows
returns-then-i-rows t c =
    let ss = c.args.table.now.at in
    let p = c.from.result in
    let i = c.args.i in
    let below : p < length ss = omega (arith, c.requires, c.if-n-eq0.false, c.from.ensures) in
    let rows : c.as_slice-rows.result.now ≡ rows_at ss p =
    c.as_slice-rows.ensures.value ∙ ap (λ (s : Shelf). rows_of s) (get_or_default ss p c.index-table-from.result empty_shelf below) in
    let before : suc p ≡ c.args.n = omega (arith, c.if-n-eq0.false, c.from.ensures) in
    let here : i < length c.as_slice-rows.result.now = omega (arith, c.if-i-rows.true) in
    sym (row_key c.as_slice-rows.result.now i _ here)
    ∙ sym (shelf_here ss c.args.n p i before c.as_slice-rows.result.now rows here)

pub returns : goal.returns
returns t c =
    let ss = c.args.table.now.at in
    let p = c.from.result in
    let i = c.args.i in
    let below : p < length ss = omega (arith, c.requires, c.if-n-eq0.false, c.from.ensures) in
    let rows : c.as_slice-rows.result.now ≡ rows_at ss p =
    c.as_slice-rows.ensures.value ∙ ap (λ (s : Shelf). rows_of s) (get_or_default ss p c.index-table-from.result empty_shelf below) in
    let before : suc p ≡ c.args.n = omega (arith, c.if-n-eq0.false, c.from.ensures) in
    let past : length c.as_slice-rows.result.now ≤ i = omega (arith, c.if-i-rows.false) in
    c.shelf_key.ensures ∙ sym (shelf_before ss c.args.n p i before c.as_slice-rows.result.now rows (c.args.n - 1) (i - length c.as_slice-rows.result.now) (omega (arith, before)) refl past)
