use Rattle.std.proofs.lemmas.Result.{err_from_is_err_and}
use Rattle.relation.specs.Catalog.{row_told}
use Rattle.relation.proofs.Steps.{each-next, each-ended, handed_on}
use Rattle.relation.proofs.catalog.all_told.Goals as goal

pub returns-in_err-told_by : goal.returns-in_err-told_by
returns-in_err-told_by c =
    let p = err_from_is_err_and c.from_residual.result c.from_residual.ensures.1 in
    rw (p.1, p.2)
    (handed_on (λ h. each-ended row_told c.args.rows.now c.loop-placed.placed-index c.placed-item.result c.loop-placed.all.items _ c.loop-placed-test.true c.placed-item.is c.loop-placed.invariant h)
    c.in_err-told_by.ensures)

pub loop-placed-preserved : goal.loop-placed-preserved
loop-placed-preserved c =
    rw c.in_ok-push.ensures.items
    (each-next row_told c.args.rows.now c.loop-placed.placed-index c.placed-item.result c.loop-placed.all.items _ c.loop-placed-test.true c.placed-item.is c.loop-placed.invariant c.in_ok-told_by.ensures)
