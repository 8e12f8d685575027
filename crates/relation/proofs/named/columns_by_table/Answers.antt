use Rattle.std.proofs.Common.{ℕ, List}
use Rattle.relation.specs.Catalog.{as_column}
use Rattle.relation.specs.declared.catalog.CatalogEntry.{CatalogEntry}
use Rattle.relation.proofs.Naming.{column-tells, kept-more, kept-other}
use Rattle.relation.proofs.named.columns_by_table.Goals as goal
use Rattle.relation.proofs.named.columns_by_table.Goals.{in-Some+in_ok-copy+in_ok-add_under, in_default}

pub loop-told-preserved : goal.loop-told-preserved
loop-told-preserved c =
    let of = λ (table : List ℕ) (told : CatalogEntry). as_column table told.row in
    elim c.match-column_row.branch [
      | in-Some+in_ok-copy+in_ok-add_under w ↦
          rw w.columns-is
          (kept-more of c.loop-told.columns w.add_under.new.kept c.args.rows.now c.loop-told.told-index c.told-item.result w.in-Some.row.now.table w.in-Some.row.now c.loop-told-test.true c.told-item.is (λ table. column-tells c.told-item.result w.in-Some.row.now table w.in-Some.ensures) c.loop-told.invariant
          (rw w.in_ok-copy.ensures at w.in_ok-add_under.ensures))
      | in_default w ↦
          rw w.columns-is
          (kept-other of c.loop-told.columns c.args.rows.now c.loop-told.told-index c.told-item.result c.loop-told-test.true c.told-item.is w.in_default.ensures c.loop-told.invariant)
    ]
