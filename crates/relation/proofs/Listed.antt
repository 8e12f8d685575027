-- An index that is made.
use Rattle.std.proofs.Common.{ℕ, List, [], ◌∷◌, Result, Ok, Err, inl, inr}
use Rattle.retro_base.specs.declared.refusal.Refusal.{Refusal}
use Rattle.pager.specs.Pages.{Pages}
use Rattle.pager.specs.declared.index.Found.{Found}
use Rattle.relation.specs.declared.catalog.StoredTable.{StoredTable}
use Rattle.relation.specs.declared.catalog.TheConstants.{CATALOG}
use Rattle.relation.specs.CatalogRow.{row_values}
use Rattle.relation.specs.Work.{all_added, entries_at, row_of_index, table_indexed}
use Rattle.relation.specs.Entries.{EditsIndex, entries_edited}

-- an index that is made, step by step
pub indexed-by : (make : ℕ → Pages → Result (ℕ × Pages) Refusal → Type 0) (add : EditsIndex) (size : ℕ) (name : List ℕ) (table : StoredTable) (place : ℕ) (pages : Pages) (entries : List Found) (root : ℕ) (with_root with_row : Pages)
    → entries_at size pages table place (Ok entries) → make size pages (Ok (root, with_root)) → all_added size CATALOG (row_values (row_of_index name table.name place root) ∷ []) with_root (Ok (tt, with_row))
    → (a : Result (Unit {0} × Pages) Refusal) → entries_edited add size root entries with_row a → table_indexed make add size name table place pages a
indexed-by make add size name table place pages entries root with_root with_row read made told (Ok y) h =
    (entries, read, ((root, with_root), made, ((tt, with_row), told, h)))
indexed-by make add size name table place pages entries root with_root with_row read made told (Err why) h =
    inr (entries, read, inr ((root, with_root), made, inr ((tt, with_row), told, h)))

-- an index whose row is refused
pub indexed-untold : (make : ℕ → Pages → Result (ℕ × Pages) Refusal → Type 0) (add : EditsIndex) (size : ℕ) (name : List ℕ) (table : StoredTable) (place : ℕ) (pages : Pages) (entries : List Found) (root : ℕ) (with_root : Pages) (why : Refusal)
    → entries_at size pages table place (Ok entries) → make size pages (Ok (root, with_root)) → all_added size CATALOG (row_values (row_of_index name table.name place root) ∷ []) with_root (Err why) → table_indexed make add size name table place pages (Err why)
indexed-untold make add size name table place pages entries root with_root why read made refused =
    inr (entries, read, inr ((root, with_root), made, inl refused))
