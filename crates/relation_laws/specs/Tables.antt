-- The tables of the pages, and what well-formed pages are.
use Rattle.std.specs.Prelude.{◌≡◌, ◌≢◌, ◌++◌, ◌+◌, ℕ, List, [], ◌∷◌, length, map, true, Ok}
use Rattle.std.specs.List.{AllByRecursion, AllZip, Contains, flat_map, range_with_len}
use Rattle.values.specs.declared.value.Value.{Value}
use Rattle.sql_tree.specs.declared.schema.IndexSchema.{IndexSchema}
use Rattle.sql_tree.specs.declared.statement.Column.{Column as TableColumn}
use Rattle.pager.specs.Pages.{Pages}
use Rattle.pager.specs.declared.index.Found.{Found}
use Rattle.tree_index.specs.Tree.{Lists, Shape, entries_of as entries_of_shape}
use Rattle.heap_file.specs.declared.chain.Placed.{Placed}
use Rattle.heap_file.specs.Chain.{scanned}
use Rattle.heap_laws.specs.Store.{WellFormed}
use Rattle.heap_laws.specs.Table.{IsTable}
use Rattle.relation.specs.declared.catalog.Catalog.{Catalog}
use Rattle.relation.specs.declared.catalog.StoredIndex.{StoredIndex}
use Rattle.relation.specs.declared.catalog.StoredTable.{StoredTable}
use Rattle.relation.specs.declared.catalog.TheConstants.{CATALOG}
use Rattle.relation.specs.declared.catalog.CatalogEntry.{CatalogEntry}
use Rattle.relation.specs.declared.row.CatalogRow.{CatalogRow}
use Rattle.relation.specs.declared.row.CatalogRow.TheVariants.{Table, Column, Index}
use Rattle.relation.specs.Catalog.{catalog, catalog_rows, catalog_told}
use Rattle.relation.specs.Entries.{entries_of}
use Rattle.sql_tree.specs.Rows.{fits}

-- a row under its number, wherever it stands
abbrev pub numbered_row : Placed → ℕ × List Value
numbered_row placed = (placed.number, placed.row)

-- rows under the numbers from that one on
abbrev pub numbered : ℕ → List (List Value) → List (ℕ × List Value)
numbered next [] = []
numbered next (row ∷ rows) = (next, row) ∷ numbered (next + 1) rows

-- a table: its name, its columns, the next row number, and its rows under their numbers, in rising number
pub record PlainTable : Type 0 where
  pub name : List ℕ
  pub columns : List TableColumn
  pub next_number : ℕ
  pub rows : List (ℕ × List Value)

-- what the pages show of a table of the catalog; each of its rows has one value of each column's kind
pub record ShowsTable (size : ℕ) (pages : Pages) (stored : StoredTable) (table : PlainTable) : Type 0 where
  pub name : table.name ≡ stored.name
  pub columns : table.columns ≡ stored.columns
  pub placed : List Placed
  pub is_table : IsTable size pages stored.first (record { next_number = table.next_number; rows = placed })
  pub rows : table.rows ≡ map numbered_row placed
  pub fitting : AllByRecursion (λ (row : ℕ × List Value). fits table.columns row.1 ≡ true) table.rows

-- the tables, and the indexes over them, in the order in which they were made
pub record PlainTables : Type 0 where
  pub tables : List PlainTable
  pub indexes : List IndexSchema

-- the tables of the pages
pub record TablesOf (size : ℕ) (pages : Pages) (all : PlainTables) : Type 0 where
  pub found : Catalog
  pub read : catalog size pages (Ok found)
  pub shown : AllZip (ShowsTable size pages) found.tables all.tables
  pub indexes : all.indexes ≡ found.indexes

-- no two of these are the same
abbrev pub AreDifferent : {A : Type 0} → List A → Type 0
AreDifferent [] = Unit {0}
AreDifferent (x ∷ xs) = AllByRecursion (λ y. y ≢ x) xs × AreDifferent xs

-- the names of tables of the catalog
abbrev pub names_of : List StoredTable → List (List ℕ)
names_of tables = map (λ (table : StoredTable). table.name) tables

-- a column's and an index's row speaks of a table that is there
abbrev pub SpeaksOfTable : List (List ℕ) → CatalogRow → Type 0
SpeaksOfTable names (Table row) = Unit {0}
SpeaksOfTable names (Column row) = Contains names row.table
SpeaksOfTable names (Index row) = Contains names row.table

-- Pages on which tables stand, with other pages that they leave alone.
pub record IsTableStore (size : ℕ) (pages : Pages) : Type 0 where
  -- the catalog can be read, and its rows are numbered from 0 on without gaps
  pub placed : List Placed
  pub scan : scanned size pages CATALOG (Ok placed)
  pub gapless : map (λ (row : Placed). row.number) placed ≡ range_with_len 0 (length placed)
  pub told : List CatalogEntry
  pub rows : catalog_rows size pages (Ok told)
  pub found : Catalog
  pub read : catalog_told told (Ok found)
  -- each row of it speaks of a table that is there; names of tables and indexes differ, and those of a table's columns
  pub kept : AllByRecursion (λ (row : CatalogEntry). SpeaksOfTable (names_of found.tables) row.row) told
  pub names : AreDifferent (names_of found.tables ++ map (λ (index : IndexSchema). index.name) found.indexes)
  pub columns : AllByRecursion
      (λ (table : StoredTable). AreDifferent (map (λ (column : TableColumn). column.name) table.columns)) found.tables
  -- no page is used twice, by the catalog, by a table or by what else is held; and each table can be read
  pub held : List ℕ
  pub heap : WellFormed size pages (CATALOG ∷ map (λ (table : StoredTable). table.first) found.tables) held
  pub tables : List PlainTable
  pub shown : AllZip (ShowsTable size pages) found.tables tables

-- these entries are those of the rows in an index over the column at that place: each of a row, and each row's
pub record AreEntriesOf (place : ℕ) (rows : List Placed) (entries : List Found) : Type 0 where
  pub told : (entry : Found) → Contains entries entry → Contains (entries_of place rows) entry
  pub listed : (entry : Found) → Contains (entries_of place rows) entry → Contains entries entry

-- an index on these pages, from its root page on, whose entries are those of the rows
pub record KeepsIndex (size : ℕ) (pages : Pages) (rows : List Placed) (index : StoredIndex)
    (held : List ℕ) : Type 0 where
  pub shape : Shape
  pub lists : Lists size pages index.root shape held
  pub entries : AreEntriesOf index.place rows (entries_of_shape shape)

-- the indexes of a table, each on its pages
pub record KeepsIndexes (size : ℕ) (pages : Pages) (table : StoredTable) (held : List (List ℕ)) : Type 0 where
  pub rows : List Placed
  pub scan : scanned size pages table.first (Ok rows)
  pub each : AllZip (KeepsIndex size pages rows) table.indexes held

-- the pages of indexes, all together
abbrev pub all_pages : List (List ℕ) → List ℕ
all_pages held = flat_map (λ (some : List ℕ). some) held

-- Well-formed pages: tables stand on them, and on the other pages that are in use the indexes of the tables.
pub record IsStore (size : ℕ) (pages : Pages) : Type 0 where
  pub base : IsTableStore size pages
  pub held : List (List (List ℕ))
  pub indexed : AllZip (KeepsIndexes size pages) base.found.tables held
  pub all : base.held ≡ flat_map all_pages held
