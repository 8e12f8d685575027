use Rattle.std.proofs.Common.{ℕ, List, take}
use Rattle.relation.specs.Catalog.{as_kept}
use Rattle.relation.specs.declared.catalog.CatalogEntry.{CatalogEntry}
use Rattle.relation.proofs.Naming.{IsKept}
use Rattle.relation.proofs.named.indexes_by_table.Given as goal

abbrev pub invariant-loop-told : goal.invariant-loop-told
invariant-loop-told l = IsKept (λ (table : List ℕ) (told : CatalogEntry). as_kept table told.row) l.indexes (take l.told-index l.rows)
