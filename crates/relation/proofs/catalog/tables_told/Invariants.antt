use Rattle.std.proofs.Common.{Ok, take}
use Rattle.relation.specs.Catalog.{table_rows, table_told}
use Rattle.relation.specs.Each.{each}
use Rattle.relation.proofs.catalog.tables_told.Given as goal

abbrev pub invariant-loop-told : goal.invariant-loop-told
invariant-loop-told l = each (table_told l.rows) (table_rows (take l.told-index l.rows)) (Ok l.tables.items)
