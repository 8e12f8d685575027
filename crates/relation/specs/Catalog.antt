-- What the catalog says: the tables, with their first pages and columns, and the indexes.
use Rattle.std.specs.Prelude.{◌≡◌, ◌≤◌, ◌<◌, ◌==◌, ℕ, List, length, map, Option, Some, None, Result}
use Rattle.std.specs.Prelude.{Ok, Err, slice_get, slice_index_or, if◌then◌else◌, position}
use Rattle.std.specs.List.{AllByRecursion, filter_map, find}
use Rattle.retro_base.specs.declared.limits.TheConstants.{COLUMNS}
use Rattle.retro_base.specs.declared.refusal.Refusal.{Refusal}
use Rattle.sql_tree.specs.declared.schema.IndexSchema.{IndexSchema}
use Rattle.sql_tree.specs.declared.schema.Schema.{Schema}
use Rattle.sql_tree.specs.declared.statement.Column.{Column as TableColumn}
use Rattle.pager.specs.Pages.{Pages, broken}
use Rattle.heap_file.specs.declared.chain.Placed.{Placed}
use Rattle.pager.specs.Allows.{◌>>=◌, only, either}
use Rattle.heap_file.specs.Chain.{scanned}
use Rattle.heap_file.specs.Work.{next_of}
use Rattle.relation.specs.declared.catalog.Catalog.{Catalog}
use Rattle.relation.specs.declared.catalog.StoredIndex.{StoredIndex}
use Rattle.relation.specs.declared.catalog.StoredTable.{StoredTable}
use Rattle.relation.specs.declared.catalog.CatalogEntry.{CatalogEntry}
use Rattle.relation.specs.declared.catalog.TheConstants.{CATALOG}
use Rattle.relation.specs.declared.row.CatalogRow.{CatalogRow}
use Rattle.relation.specs.declared.row.CatalogRow.TheVariants.{Table, Column, Index}
use Rattle.relation.specs.declared.row.ColumnRow.{ColumnRow}
use Rattle.relation.specs.declared.row.IndexForm.{IndexForm}
use Rattle.relation.specs.declared.row.IndexForm.TheVariants.{Named, Tree}
use Rattle.relation.specs.declared.row.IndexRow.{IndexRow}
use Rattle.relation.specs.declared.row.TableRow.{TableRow}
use Rattle.relation.specs.CatalogRow.{IsRowOf}
use Rattle.relation.specs.Each.{each}
use Rattle.values.specs.Name.{same_name}

-- what a stored row of the catalog tells; a row of none of the three kinds breaks its page
abbrev pub row_told : Placed → Result CatalogEntry Refusal → Type 0
row_told placed (Ok row) = (row.page ≡ placed.page) × IsRowOf placed.row (Some row.row)
row_told placed (Err why) = (why ≡ broken placed.page) × IsRowOf placed.row None

-- The rows of the catalog, in rising number. The first page is broken where its next row number is not their count.
abbrev pub catalog_rows : ℕ → Pages → Result (List CatalogEntry) Refusal → Type 0
catalog_rows size pages = do
  rows ← scanned size pages CATALOG
  next ← next_of size pages CATALOG
  either (next == length rows) (each row_told rows) (only (Err (broken CATALOG)))

-- a table's row, with its page
abbrev pub as_table : ℕ → CatalogRow → Option (ℕ × TableRow)
as_table page (Table row) = Some (page, row)
as_table page (Column row) = None
as_table page (Index row) = None

-- a column's row, where it names that table
abbrev pub as_column : List ℕ → CatalogRow → Option ColumnRow
as_column table (Table row) = None
as_column table (Column row) = if same_name row.table table then Some row else None
as_column table (Index row) = None

-- an index's row, with its page
abbrev pub as_index : ℕ → CatalogRow → Option (ℕ × IndexRow)
as_index page (Table row) = None
as_index page (Column row) = None
as_index page (Index row) = Some (page, row)

-- an index of that form, where a table keeps it: one that is kept by name alone has no entries
abbrev pub stored_index : IndexForm → ℕ → ℕ → Option StoredIndex
stored_index Named place root = None
stored_index Tree place root = Some (record { place = place; root = root })

-- the index of an index's row, where the table of that name keeps it
abbrev pub as_kept : List ℕ → CatalogRow → Option StoredIndex
as_kept table (Table row) = None
as_kept table (Column row) = None
as_kept table (Index row) = if same_name row.table table then stored_index row.form row.place row.root else None

abbrev pub table_rows : List CatalogEntry → List (ℕ × TableRow)
table_rows rows = filter_map (λ (told : CatalogEntry). as_table told.page told.row) rows

abbrev pub column_rows : List ℕ → List CatalogEntry → List ColumnRow
column_rows table rows = filter_map (λ (told : CatalogEntry). as_column table told.row) rows

-- the indexes that the table of that name keeps, in the order in which they were made
abbrev pub kept_indexes : List ℕ → List CatalogEntry → List StoredIndex
kept_indexes table rows = filter_map (λ (told : CatalogEntry). as_kept table told.row) rows

abbrev pub index_rows : List CatalogEntry → List (ℕ × IndexRow)
index_rows rows = filter_map (λ (told : CatalogEntry). as_index told.page told.row) rows

-- some row tells that column at that place
abbrev pub IsColumnTold : List ColumnRow → ℕ → TableColumn → Type 0
IsColumnTold rows place column =
    (k : ℕ) × (k < length rows) ×
    ((d : ColumnRow) → ((slice_index_or rows k d).place ≡ place) × ((slice_index_or rows k d).column ≡ column))

-- which of the rows tells a column at that place, or none where none does
abbrev pub row_at : ℕ → List ColumnRow → Option ℕ
row_at place rows = position (λ (row : ColumnRow). row.place == place) rows

-- The columns that these rows tell: one to sixteen, as many as the rows, and for each place from 0 on the column that a
-- row tells there.
pub record AreColumns (rows : List ColumnRow) (columns : List TableColumn) : Type 0 where
  pub some : 1 ≤ length columns
  pub few : length columns ≤ COLUMNS
  pub many : length rows ≡ length columns
  pub each : (place : ℕ) (d : TableColumn) → place < length columns
      → IsColumnTold rows place (slice_index_or columns place d)

-- the columns that these rows tell, or none where they tell no table's columns
abbrev pub AreColumnsOf : List ColumnRow → Option (List TableColumn) → Type 0
AreColumnsOf rows None = (columns : List TableColumn) → AreColumns rows columns → ⊥
AreColumnsOf rows (Some columns) = AreColumns rows columns

-- a table with the columns that these rows tell, and with these indexes; one whose rows do not tell columns breaks the
-- page of its own row
abbrev pub table_with : List ColumnRow → List StoredIndex → ℕ × TableRow → Result StoredTable Refusal → Type 0
table_with columns indexes row (Ok table) =
    (table.name ≡ row.1.name) × (table.first ≡ row.1.first) × AreColumnsOf columns (Some table.columns)
    × (table.indexes ≡ indexes)
table_with columns indexes row (Err why) = (why ≡ broken row.0) × AreColumnsOf columns None

abbrev pub table_told : List CatalogEntry → ℕ × TableRow → Result StoredTable Refusal → Type 0
table_told rows row = table_with (column_rows row.1.name rows) (kept_indexes row.1.name rows) row

-- the table of that name
abbrev pub table_named : List ℕ → List StoredTable → Option StoredTable
table_named name tables = find (λ (table : StoredTable). same_name table.name name) tables

-- the place of the first table of that name, or none where no table has it
abbrev pub table_place : List ℕ → List StoredTable → Option ℕ
table_place name tables = position (λ (table : StoredTable). same_name table.name name) tables

-- the column at that place of a table
abbrev pub column_at : ℕ → Option StoredTable → Option TableColumn
column_at place None = None
column_at place (Some table) = slice_get table.columns place

-- an index over its column; one whose table or column is not there breaks the page of its row
abbrev pub index_over : ℕ × IndexRow → Option TableColumn → Result IndexSchema Refusal
index_over row None = Err (broken row.0)
index_over row (Some column) = Ok (record { name = row.1.name; table = row.1.table; column = column.name })

abbrev pub index_told : List StoredTable → ℕ × IndexRow → Result IndexSchema Refusal → Type 0
index_told tables row = only (index_over row (column_at row.1.place (table_named row.1.table tables)))

-- the tables and indexes that these rows tell
abbrev pub catalog_told : List CatalogEntry → Result Catalog Refusal → Type 0
catalog_told rows = do
  tables ← each (table_told rows) (table_rows rows)
  indexes ← each (index_told tables) (index_rows rows)
  only (Ok (record { tables = tables; indexes = indexes }))

-- the tables and indexes of the catalog
abbrev pub catalog : ℕ → Pages → Result Catalog Refusal → Type 0
catalog size pages = do
  rows ← catalog_rows size pages
  catalog_told rows

-- each table has one to sixteen columns
abbrev pub HaveFewColumns : List StoredTable → Type 0
HaveFewColumns tables =
    AllByRecursion (λ (table : StoredTable). (1 ≤ length table.columns) × (length table.columns ≤ COLUMNS)) tables

-- the catalog without pages
abbrev pub schema_of : Catalog → Schema
schema_of catalog = record {
  tables = map (λ (table : StoredTable). record { name = table.name; columns = table.columns }) catalog.tables;
  indexes = catalog.indexes;
}
