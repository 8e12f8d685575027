use Rattle.std.proofs.Common.{Ok, take}
use Rattle.relation.specs.Catalog.{index_rows, index_told}
use Rattle.relation.specs.Each.{each}
use Rattle.relation.proofs.catalog.indexes_told.Given as goal

abbrev pub invariant-loop-told : goal.invariant-loop-told
invariant-loop-told l = each (index_told l.tables) (index_rows (take l.told-index l.rows)) (Ok l.indexes.items)
