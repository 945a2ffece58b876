use Rattle.std.proofs.Common.{◌≡◌, sym, refl, ◌∙◌, arith}
use Rattle.shelves.specs.Rows.{covered}
use Rattle.shelves.specs.Shelves.{rows_at}
use Rattle.relaying.specs.Toil.{uncovered}
use Rattle.relay.proofs.Places.{set_on, set_over}
use Rattle.relay.proofs.toil.open_sets.Goals.{then-not-covers, else-not-covers}
use Rattle.relay.proofs.toil.open_sets.Goals as goal

pub loop-set-init : goal.loop-set-init
unfolding uncovered
loop-set-init c = record { answer = refl; few = omega arith }

pub loop-set-preserved : goal.loop-set-preserved
loop-set-preserved c =
    let a = c.args.key.now.0 in
    let x = c.args.key.now.1 in
    let m = c.loop-set.set in
    let rs = rows_at c.args.table.now.at c.args.craft in
    let is : c.covers.result ≡ covered rs a x m = c.covers.ensures in
    let inv = c.loop-set.invariant in
    elim c.if-not-covers.branch [
      | then-not-covers w ↦ record {
        answer = omega (arith, w.open-is, inv.answer, set_over a x rs m (sym is ∙ w.if-not-covers.true));
        few = omega (arith, w.open-is, inv.few);
      }
      | else-not-covers w ↦ record {
        answer = omega (arith, w.open-is, inv.answer, set_on a x rs m (sym is ∙ w.if-not-covers.false));
        few = omega (arith, w.open-is, inv.few);
      }
    ]
