use Rattle.std.proofs.Common.{Ok, take}
use Rattle.relation.specs.Catalog.{row_told}
use Rattle.relation.specs.Each.{each}
use Rattle.relation.proofs.catalog.all_told.Given as goal

abbrev pub invariant-loop-placed : goal.invariant-loop-placed
invariant-loop-placed l = each row_told (take l.placed-index l.rows) (Ok l.all.items)
