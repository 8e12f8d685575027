use Rattle.std.proofs.Common.{◌≡◌, map, take}
use Rattle.sql_tree.specs.declared.schema.TableSchema.{TableSchema}
use Rattle.relation.specs.declared.catalog.StoredTable.{StoredTable}
use Rattle.relation.proofs.catalog.Catalog.schema.Given as goal

abbrev pub invariant-loop-table : goal.invariant-loop-table
invariant-loop-table l =
    l.tables ≡ map {B = TableSchema} (λ (table : StoredTable). record { name = table.name; columns = table.columns }) (take l.table-index l.table-items)
