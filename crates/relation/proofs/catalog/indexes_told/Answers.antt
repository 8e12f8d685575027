use Rattle.std.proofs.lemmas.Result.{err_from_is_err_and}
use Rattle.relation.specs.declared.catalog.CatalogEntry.{CatalogEntry}
use Rattle.relation.specs.Catalog.{as_index, index_told}
use Rattle.relation.proofs.Steps.{handed_on, none-next, some-ended, some-next}
use Rattle.relation.proofs.catalog.indexes_told.Goals as goal
use Rattle.relation.proofs.catalog.indexes_told.Goals.{in-Some+in_ok-index_told+in_ok-push, in_default}

pub returns-in_err-index_told : goal.returns-in_err-index_told
returns-in_err-index_told c =
    let p = err_from_is_err_and c.from_residual-in_err-index_told.result c.from_residual-in_err-index_told.ensures.1 in
    rw (p.1, p.2)
    (handed_on (λ h. some-ended (λ (told : CatalogEntry). as_index told.page told.row) (index_told c.args.tables.now) c.args.rows.now c.loop-told.told-index c.told-item.result (c.told-item.result.page, c.in-Some.row.now) c.loop-told.indexes.items _ c.loop-told-test.true c.told-item.is c.in-Some.ensures c.loop-told.invariant h)
    c.in_err-index_told.ensures)

pub loop-told-preserved : goal.loop-told-preserved
loop-told-preserved c =
    elim c.match-index_row.branch [
      | in-Some+in_ok-index_told+in_ok-push w ↦
          rw w.indexes-is (rw w.in_ok-push.ensures.items
          (some-next (λ (told : CatalogEntry). as_index told.page told.row) (index_told c.args.tables.now) c.args.rows.now c.loop-told.told-index c.told-item.result (c.told-item.result.page, w.in-Some.row.now) c.loop-told.indexes.items _ c.loop-told-test.true c.told-item.is w.in-Some.ensures c.loop-told.invariant w.in_ok-index_told.ensures))
      | in_default w ↦
          rw w.indexes-is
          (none-next (λ (told : CatalogEntry). as_index told.page told.row) (index_told c.args.tables.now) c.args.rows.now c.loop-told.told-index c.told-item.result c.loop-told.indexes.items c.loop-told-test.true c.told-item.is w.in_default.ensures c.loop-told.invariant)
    ]
