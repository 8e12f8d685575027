use Rattle.std.proofs.Common.{◌+◌, ◌≤◌, ◌∷◌, [], arith, length-append}
use Rattle.sql_select.specs.Bound.{keeps}
use Rattle.tables.specs.Bound.{assigns, updated_by}
use Rattle.tables.specs.Fates.{counts}
use Rattle.tables.specs.declared.fates.Fate.{Fate}
use Rattle.tables.proofs.Rewriting.{counts-one, fates_more}
use Rattle.tables.proofs.changes.updated_rows.Goals as goal

pub loop-row-preserved : goal.loop-row-preserved
loop-row-preserved c =
    let before = c.loop-row.invariant in
    let fate : Fate = c.in_ok-fate.fate in
    let most : counts fate ≤ 1 = counts-one fate in
    rw c.in_ok-push.ensures
    (record {
      made = fates_more (updated_by (keeps c.args.filter.now) (assigns c.args.assignments.now)) c.args.rows.now c.loop-row.row-index c.row-item.result c.loop-row.fates.each c.loop-row.fates.count fate c.loop-row-test.true c.row-item.is before.each c.in_ok-fate.ensures before.made;
      each = omega (arith, length-append c.loop-row.fates.each (fate ∷ []), before.each);
      count = omega (arith, most, before.count);
    })
