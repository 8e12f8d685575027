use Rattle.std.proofs.Common.{ℕ, List, take}
use Rattle.relation.specs.Catalog.{as_column}
use Rattle.relation.specs.declared.catalog.CatalogEntry.{CatalogEntry}
use Rattle.relation.proofs.Naming.{IsKept}
use Rattle.relation.proofs.named.columns_by_table.Given as goal

abbrev pub invariant-loop-told : goal.invariant-loop-told
invariant-loop-told l = IsKept (λ (table : List ℕ) (told : CatalogEntry). as_column table told.row) l.columns (take l.told-index l.rows)
