-- What the calls answer, and what they do to the pages.
use Rattle.std.specs.Prelude.{◌≡◌, ◌+◌, ◌==◌, ℕ, Bool, true, List, [], ◌∷◌, map}
use Rattle.std.specs.Prelude.{Option, Some, None, Result, Ok, Err, if◌then◌else◌}
use Rattle.std.specs.List.{AllByRecursion}
use Rattle.std.specs.List.Sorted.{IsNonDecreasingBy, IsPermutation}
use Rattle.retro_base.specs.declared.refusal.Refusal.{Refusal}
use Rattle.values.specs.declared.value.Value.{Value}
use Rattle.sql_tree.specs.Scope.{column_place}
use Rattle.sql_tree.specs.declared.schema.Schema.{Schema}
use Rattle.sql_tree.specs.declared.statement.Column.{Column as TableColumn}
use Rattle.pager.specs.Pages.{Pages, broken}
use Rattle.heap_file.specs.declared.chain.Placed.{Placed}
use Rattle.pager.specs.Allows.{◌>>=◌, in_turn, only}
use Rattle.heap_file.specs.Sieving.{meets, sifted}
use Rattle.heap_file.specs.Work.{added, changed, got, made, next_of, removed}
use Rattle.pager.specs.declared.index.Found.{Found}
use Rattle.relation.specs.declared.catalog.StoredIndex.{StoredIndex}
use Rattle.relation.specs.declared.catalog.StoredTable.{StoredTable}
use Rattle.relation.specs.declared.catalog.TheConstants.{CATALOG}
use Rattle.relation.specs.declared.row.CatalogRow.{CatalogRow}
use Rattle.relation.specs.declared.row.CatalogRow.TheVariants.{Table, Column, Index}
use Rattle.relation.specs.declared.row.IndexForm.TheVariants.{Tree}
use Rattle.relation.specs.Catalog.{catalog, schema_of, table_named}
use Rattle.relation.specs.CatalogRow.{row_values}
use Rattle.relation.specs.Each.{each, each_in_turn, each_some}
use Rattle.relation.specs.Sieving.{fitting, passing_found}
use Rattle.relation.specs.Entries.{EditsIndex, entries_edited, entries_of, in_order, rows_listed, rows_moved}
use Rattle.relation.specs.declared.drafting.RowChange.{RowChange}
use Rattle.relation.specs.declared.listing.Moved.{Moved}
use Rattle.sql_tree.specs.Rows.{fits}

-- the tables and indexes there are
abbrev pub schema_in : ℕ → Pages → Result Schema Refusal → Type 0
schema_in size pages = do
  catalog ← catalog size pages
  only (Ok (schema_of catalog))

-- what there is; where there is nothing, the catalog's first page is told as broken
abbrev pub or_broken : {A : Type 0} → Option A → Result A Refusal
or_broken None = Err (broken CATALOG)
or_broken (Some x) = Ok x

-- the table of that name
abbrev pub table_in : ℕ → Pages → List ℕ → Result StoredTable Refusal → Type 0
table_in size pages name = do
  catalog ← catalog size pages
  only (or_broken (table_named name catalog.tables))

-- the next row number of the table of that name
abbrev pub next_in : ℕ → Pages → List ℕ → Result ℕ Refusal → Type 0
next_in size pages name = do
  table ← table_in size pages name
  next_of size pages table.first

-- each row fits the columns
abbrev pub AllPlacedFit : List TableColumn → List Placed → Type 0
AllPlacedFit columns rows = AllByRecursion (λ (placed : Placed). fits columns placed.row ≡ true) rows

-- The rows of a table that pass a test, in rising number. Each is to fit the columns.
abbrev pub rows_by : (Placed → Result Bool Refusal) → ℕ → Pages → StoredTable → Result (List Placed) Refusal → Type 0
rows_by passes size pages table = sifted (fitting table.columns passes) size pages table.first

-- a test was shown these rows, which fit the columns of a table
abbrev pub shown_by : StoredTable → (List Placed → Type 0) → List Placed → Type 0
shown_by table met rows = AllPlacedFit table.columns rows × met rows

-- how a test stands that was shown each row of a table, page by page; refused as its rows are that pass
abbrev pub shown : {S : Type 0} → (Placed → Result Bool Refusal) → (List Placed → S → Type 0) → ℕ → Pages → StoredTable
    → Result S Refusal → Type 0
shown passes met size pages table (Ok after) = meets (shown_by table (λ rows. met rows after)) size pages table.first []
shown passes met size pages table (Err why) = rows_by passes size pages table (Err why)

-- the rows of a table, in rising number
abbrev pub rows_at : ℕ → Pages → StoredTable → Result (List Placed) Refusal → Type 0
rows_at size pages table = rows_by (λ placed. Ok true) size pages table

-- the rows of the table of that name, in rising number
abbrev pub rows_in : ℕ → Pages → List ℕ → Result (List Placed) Refusal → Type 0
rows_in size pages name = do
  table ← table_in size pages name
  rows_at size pages table

-- the rows of columns, at the places from that one on
abbrev pub rows_of_columns : List ℕ → ℕ → List TableColumn → List CatalogRow
rows_of_columns table place [] = []
rows_of_columns table place (column ∷ columns) =
    Column (record { table = table; place = place; column = column }) ∷ rows_of_columns table (place + 1) columns

-- the catalog's rows of a table: its own, and then those of its columns
abbrev pub rows_of_table : List ℕ → ℕ → List TableColumn → List CatalogRow
rows_of_table name first columns = Table (record { name = name; first = first }) ∷ rows_of_columns name 0 columns

-- rows are added to the table that begins with that page, in order
abbrev pub all_added : ℕ → ℕ → List (List Value) → Pages → Result (Unit {0} × Pages) Refusal → Type 0
all_added size first = in_turn (λ row pages. added size pages first row)

-- the same, with where the rows then stand
abbrev pub row_placed : ℕ → ℕ → List Value → Pages → Result (Placed × Pages) Refusal → Type 0
row_placed size first row pages = do
  placed ← added size pages first row
  only (Ok (record { number = placed.0.0; page = placed.0.1; row = row }, placed.1))

-- rows with where they stand: each under the number and on the page beside it
abbrev pub standing : List (List Value × (ℕ × ℕ)) → List Placed
standing pairs = map
    (λ (pair : List Value × (ℕ × ℕ)). record { number = pair.1.0; page = pair.1.1; row = pair.0 }) pairs

-- rows are added, and told where they stand
abbrev pub all_placed : ℕ → ℕ → List (List Value) → Pages → Result (List Placed × Pages) Refusal → Type 0
all_placed size first = each_in_turn (row_placed size first)

-- rows of the table that begins with that page change, in order: each stands on its page under its number, and becomes
-- this; the answer is what became of them
abbrev pub row_changes : ℕ → ℕ → RowChange → Pages → Result (Moved × Pages) Refusal → Type 0
row_changes size first change pages = do
  page ← changed size pages first change.was.page (record { number = change.was.number; row = change.row })
  only
      (Ok (
        record {
          was = change.was;
          becomes = record { number = change.was.number; page = page.0; row = change.row };
        },
        page.1,
      ))

abbrev pub all_changed : ℕ → ℕ → List RowChange → Pages → Result (List Moved × Pages) Refusal → Type 0
all_changed size first = each_in_turn (row_changes size first)

-- rows of the table that begins with that page are taken out, in order, each of the page where it stands
abbrev pub all_removed : ℕ → ℕ → List Placed → Pages → Result (Unit {0} × Pages) Refusal → Type 0
all_removed size first = in_turn (λ (placed : Placed) pages. removed size pages first placed.page placed.number)

-- a table is made: a page is taken for it, and its rows are added to the catalog
abbrev pub created : ℕ → Pages → List ℕ → List TableColumn → Result (Unit {0} × Pages) Refusal → Type 0
created size pages name columns = do
  table ← made size pages
  all_added size CATALOG (map row_values (rows_of_table name table.0 columns)) table.1

-- the catalog's row of an index over the column at that place of a table, with that root page
abbrev pub row_of_index : List ℕ → List ℕ → ℕ → ℕ → CatalogRow
row_of_index name table place root =
    Index (record { name = name; table = table; place = place; form = Tree; root = root })

-- the entries of a table's rows in an index over the column at that place, in order of value and then of row number
abbrev pub entries_at : ℕ → Pages → StoredTable → ℕ → Result (List Found) Refusal → Type 0
entries_at size pages table place = do
  rows ← rows_at size pages table
  in_order (entries_of place rows)

-- An index over the column at that place of a table is made: its root page, its row in the catalog, and the entries of
-- the table's rows, in order.
abbrev pub table_indexed : (ℕ → Pages → Result (ℕ × Pages) Refusal → Type 0) → EditsIndex → ℕ → List ℕ → StoredTable → ℕ
    → Pages → Result (Unit {0} × Pages) Refusal → Type 0
table_indexed make add size name table place pages = do
  entries ← entries_at size pages table place
  root ← make size pages
  told ← all_added size CATALOG (row_values (row_of_index name table.name place root.0) ∷ []) root.1
  entries_edited add size root.0 entries told.1

-- the same of the column of that name of the table of that name
abbrev pub indexed : (ℕ → Pages → Result (ℕ × Pages) Refusal → Type 0) → EditsIndex → ℕ → Pages → List ℕ → List ℕ
    → List ℕ → Result (Unit {0} × Pages) Refusal → Type 0
indexed make add size pages name table column = do
  found ← table_in size pages table
  place ← only (or_broken (column_place column found.columns))
  table_indexed make add size name found place pages

-- rows are added to a table, in order, and then to its indexes
abbrev pub table_inserted : EditsIndex → ℕ → StoredTable → List (List Value) → Pages
    → Result (Unit {0} × Pages) Refusal → Type 0
table_inserted add size table rows pages = do
  placed ← all_placed size table.first rows pages
  rows_listed add size table.indexes placed.0 placed.1

-- the same of the table of that name
abbrev pub inserted : EditsIndex → ℕ → Pages → List ℕ → List (List Value) → Result (Unit {0} × Pages) Refusal → Type 0
inserted add size pages name rows = do
  table ← table_in size pages name
  table_inserted add size table rows pages

-- the row of that number; where none has it, the table's first page is told as broken
abbrev pub placed_of : ℕ → ℕ → List Placed → Result Placed Refusal
placed_of first number [] = Err (broken first)
placed_of first number (placed ∷ rows) = if placed.number == number then Ok placed else placed_of first number rows

-- rows of a table change, in order, and its indexes follow
abbrev pub table_updated : EditsIndex → EditsIndex → ℕ → StoredTable → List RowChange → Pages
    → Result (Unit {0} × Pages) Refusal → Type 0
table_updated add remove size table changes pages = do
  moves ← all_changed size table.first changes pages
  rows_moved add remove size table.indexes moves.0 moves.1

-- what the row of a number becomes, with how it stands
abbrev pub change_of : ℕ → List Placed → ℕ × List Value → Result RowChange Refusal → Type 0
change_of first rows change = do
  was ← only (placed_of first change.0 rows)
  only (Ok (record { was = was; row = change.1 }))

-- rows of the table of that name change, in order, under their numbers
abbrev pub updated : EditsIndex → EditsIndex → ℕ → Pages → List ℕ → List (ℕ × List Value)
    → Result (Unit {0} × Pages) Refusal → Type 0
updated add remove size pages name changes = do
  table ← table_in size pages name
  rows ← rows_at size pages table
  told ← each (change_of table.first rows) changes
  table_updated add remove size table told pages

-- rows of a table are taken out, in order, and then their entries of its indexes
abbrev pub table_deleted : EditsIndex → ℕ → StoredTable → List Placed → Pages → Result (Unit {0} × Pages) Refusal
    → Type 0
table_deleted remove size table rows pages = do
  done ← all_removed size table.first rows pages
  rows_listed remove size table.indexes rows done.1

-- the rows of these numbers are taken out of the table of that name, in order
abbrev pub deleted : EditsIndex → ℕ → Pages → List ℕ → List ℕ → Result (Unit {0} × Pages) Refusal → Type 0
deleted remove size pages name numbers = do
  table ← table_in size pages name
  rows ← rows_at size pages table
  gone ← each (λ number. only (placed_of table.first number rows)) numbers
  table_deleted remove size table gone pages

-- these entries in rising row number
abbrev pub by_number : List Found → Result (List Found) Refusal → Type 0
by_number found (Ok sorted) =
    IsPermutation found sorted × IsNonDecreasingBy (λ (entry : Found). entry.number) sorted
by_number found (Err why) = ⊥

-- the row of an entry, where its page holds it and it passes
abbrev pub row_found : (Placed → Result Bool Refusal) → ℕ → Pages → Found → Result (Option Placed) Refusal → Type 0
row_found passes size pages entry = do
  row ← got size pages entry.page entry.number
  only (passing_found passes entry row)

-- The rows of a table whose value in the column of an index is at least `low` and at most `high`, in rising number, as
-- the index lists them, and that pass a test; an entry whose row is not on its page is passed over. Each row is to fit
-- the columns.
abbrev pub ranged_by : (Placed → Result Bool Refusal) →
    (ℕ → ℕ → Value → Value → Pages → Result (List Found) Refusal → Type 0)
    → ℕ → Pages → StoredTable → StoredIndex → Value → Value → Result (List Placed) Refusal → Type 0
ranged_by passes range size pages table index low high = do
  found ← range size index.root low high pages
  sorted ← by_number found
  each_some (row_found (fitting table.columns passes) size pages) sorted

-- the same of every row
abbrev pub ranged_at : (ℕ → ℕ → Value → Value → Pages → Result (List Found) Refusal → Type 0) → ℕ → Pages → StoredTable
    → StoredIndex → Value → Value → Result (List Placed) Refusal → Type 0
ranged_at range size pages table index low high = ranged_by (λ placed. Ok true) range size pages table index low high
