-- What is known of all that was told.
use Rattle.std.proofs.Common.{◌≡◌, ℕ, List, [], ◌∷◌, Ok, subst}
use Rattle.relation.specs.declared.catalog.StoredTable.{StoredTable}
use Rattle.relation.specs.declared.catalog.CatalogEntry.{CatalogEntry}
use Rattle.relation.specs.declared.row.TableRow.{TableRow}
use Rattle.relation.specs.Catalog.{HaveFewColumns, table_told}
use Rattle.relation.specs.Each.{each}

-- the tables that rows tell have one to sixteen columns
pub few-told : (rows : List CatalogEntry) (named : List (ℕ × TableRow)) (tables : List StoredTable) → each (table_told rows) named (Ok tables) → HaveFewColumns tables
few-told rows [] tables h = let same : [] ≡ tables = cc h in subst HaveFewColumns same tt
few-told rows (row ∷ named) tables h =
    let same : h.0 ∷ h.2.0 ≡ tables = cc h.2.2 in
    subst HaveFewColumns same ((h.1.2.some, h.1.2.few), few-told rows named h.2.0 h.2.1)
