use Rattle.std.proofs.Common.{Err, Ok}
use Rattle.std.proofs.lemmas.Result.{err_from_is_err_and}
use Rattle.relation.specs.declared.catalog.CatalogEntry.{CatalogEntry}
use Rattle.relation.specs.Catalog.{as_table, table_told}
use Rattle.relation.proofs.Naming.{told-under}
use Rattle.relation.proofs.Steps.{handed_on, none-next, some-ended, some-next}
use Rattle.relation.proofs.catalog.tables_told.Goals as goal
use Rattle.relation.proofs.catalog.tables_told.Goals.{in-Some+in_ok-table_told+in_ok-push, in_default}

pub returns-in_err-table_told : goal.returns-in_err-table_told
returns-in_err-table_told c =
    let p = err_from_is_err_and c.from_residual-in_err-table_told.result c.from_residual-in_err-table_told.ensures.1 in
    rw (p.1, p.2)
    (handed_on (λ h. some-ended (λ (told : CatalogEntry). as_table told.page told.row) (table_told c.args.rows.now) c.args.rows.now c.loop-told.told-index c.told-item.result (c.told-item.result.page, c.in-Some.row.now) c.loop-told.tables.items _ c.loop-told-test.true c.told-item.is c.in-Some.ensures c.loop-told.invariant (told-under c.args.rows.now _ _ (c.told-item.result.page, c.in-Some.row.now) (Err c.in_err-table_told.field-0.0) (c.in_ok-columns.ensures c.in-Some.row.now.name) (c.in_ok-indexes.ensures c.in-Some.row.now.name) h))
    c.in_err-table_told.ensures)

pub loop-told-preserved : goal.loop-told-preserved
loop-told-preserved c =
    elim c.match-table_row.branch [
      | in-Some+in_ok-table_told+in_ok-push w ↦
          rw w.tables-is (rw w.in_ok-push.ensures.items
          (some-next (λ (told : CatalogEntry). as_table told.page told.row) (table_told c.args.rows.now) c.args.rows.now c.loop-told.told-index c.told-item.result (c.told-item.result.page, w.in-Some.row.now) c.loop-told.tables.items _ c.loop-told-test.true c.told-item.is w.in-Some.ensures c.loop-told.invariant
          (told-under c.args.rows.now _ _ (c.told-item.result.page, w.in-Some.row.now) (Ok w.in_ok-table_told.field-0) (c.in_ok-columns.ensures w.in-Some.row.now.name) (c.in_ok-indexes.ensures w.in-Some.row.now.name) w.in_ok-table_told.ensures)))
      | in_default w ↦
          rw w.tables-is
          (none-next (λ (told : CatalogEntry). as_table told.page told.row) (table_told c.args.rows.now) c.args.rows.now c.loop-told.told-index c.told-item.result c.loop-told.tables.items c.loop-told-test.true c.told-item.is w.in_default.ensures c.loop-told.invariant)
    ]
