use Rattle.std.proofs.Common.{ℕ, List}
use Rattle.relation.specs.Catalog.{as_kept}
use Rattle.relation.specs.declared.catalog.CatalogEntry.{CatalogEntry}
use Rattle.relation.proofs.Naming.{index-tells, kept-more, kept-other}
use Rattle.relation.proofs.named.indexes_by_table.Goals as goal
use Rattle.relation.proofs.named.indexes_by_table.Goals.{in-Some+in_ok-add_under, in_default}

pub loop-told-preserved : goal.loop-told-preserved
loop-told-preserved c =
    let of = λ (table : List ℕ) (told : CatalogEntry). as_kept table told.row in
    elim c.match-kept_row.branch [
      | in-Some+in_ok-add_under w ↦
          rw w.indexes-is
          (kept-more of c.loop-told.indexes w.add_under.new.kept c.args.rows.now c.loop-told.told-index c.told-item.result w.in-Some.row.now.table (record { place = w.in-Some.row.now.place; root = w.in-Some.row.now.root }) c.loop-told-test.true c.told-item.is (λ table. index-tells c.told-item.result w.in-Some.row.now table w.in-Some.ensures.0 w.in-Some.ensures.1) c.loop-told.invariant
          w.in_ok-add_under.ensures)
      | in_default w ↦
          rw w.indexes-is
          (kept-other of c.loop-told.indexes c.args.rows.now c.loop-told.told-index c.told-item.result c.loop-told-test.true c.told-item.is w.in_default.ensures c.loop-told.invariant)
    ]
