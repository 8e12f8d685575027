-- What the calls on tables by name do to the tables of well-formed pages.
use Rattle.std.specs.Prelude.{◌≡◌, ◌≢◌, ◌<◌, ◌≤◌, ◌+◌, ◌++◌, ◌^◌, ◌==◌, ◌&&◌, not, ℕ, Bool}
use Rattle.std.specs.Prelude.{List, [], ◌∷◌, length, map, slice_get, slice_index_or, true}
use Rattle.std.specs.Prelude.{false, Option, Some, None, Result, Ok, Err, if◌then◌else◌}
use Rattle.std.specs.List.{AllByRecursion, Contains, filter, list_any}
use Rattle.retro_base.specs.declared.refusal.Refusal.{Refusal}
use Rattle.retro_base.specs.declared.refusal.Refusal.TheVariants.{PagesFull}
use Rattle.std.specs.Ordering.{is_gt, is_lt}
use Rattle.retro_base.specs.declared.limits.TheConstants.{COLUMNS}
use Rattle.values.specs.Value.{kind_of, value_cmp}
use Rattle.values.specs.declared.value.Value.{Value}
use Rattle.pager.specs.Allows.{only}
use Rattle.values.specs.Name.{IsName, same_name}
use Rattle.sql_tree.specs.declared.schema.IndexSchema.{IndexSchema}
use Rattle.sql_tree.specs.declared.schema.Schema.{Schema}
use Rattle.sql_tree.specs.declared.schema.TableSchema.{TableSchema}
use Rattle.sql_tree.specs.declared.statement.Column.{Column as TableColumn}
use Rattle.pager.specs.Pages.{Pages}
use Rattle.heap_file.specs.declared.chain.Placed.{Placed}
use Rattle.heap_laws.specs.Laws.{DoesOrIsFull, AreZero}
use Rattle.heap_laws.specs.Table.{IsStorable}
use Rattle.relation.specs.declared.catalog.StoredIndex.{StoredIndex}
use Rattle.relation.specs.declared.catalog.StoredTable.{StoredTable}
use Rattle.relation.specs.Each.{each}
use Rattle.tree_index.specs.Work.{added, made, ranged, removed}
use Rattle.relation.specs.declared.drafting.RowChange.{RowChange}
use Rattle.relation.specs.Work.{all_placed, change_of, created, deleted, indexed, inserted, next_in}
use Rattle.relation.specs.Work.{placed_of, ranged_at, rows_at, rows_in, schema_in, table_in, updated}
use Rattle.sql_tree.specs.Rows.{fits}
use Rattle.relation_laws.specs.Needs.{CreateNeeds, IndexNeeds, InsertNeeds, TakesNeeded, UpdateNeeds}
use Rattle.relation_laws.specs.Reach.{EditsEnds, Reaches, ReachesCatalog}
use Rattle.relation_laws.specs.Tables.{AreDifferent, IsStore, PlainTable, PlainTables, TablesOf, numbered, numbered_row}

-- well-formed pages that hold these tables
pub record IsStoreOf (size : ℕ) (pages : Pages) (all : PlainTables) : Type 0 where
  pub store : IsStore size pages
  pub tables : TablesOf size pages all

-- the tables with this one in place of the one of its name; all else as before
abbrev pub with_table : PlainTable → PlainTables → PlainTables
with_table changed all = record all
    { tables = map (λ (table : PlainTable). if same_name table.name changed.name then changed else table) all.tables }

-- a call leaves this, and is refused only for want of pages
abbrev pub LeavesOrIsFull : ℕ → (Pages → Type 0) → Result (Unit {0} × Pages) Refusal → Type 0
LeavesOrIsFull size done (Ok answer) = done answer.1
LeavesOrIsFull size done (Err why) = why ≡ PagesFull size

-- what is read is never refused, and is this
abbrev pub IsRead : {A : Type 0} → (A → Type 0) → Result A Refusal → Type 0
IsRead is (Ok value) = is value
IsRead is (Err why) = ⊥

-- no tables, and no index
abbrev pub no_tables : PlainTables
no_tables = record { tables = []; indexes = [] }

-- Pages hold one list of tables, as their bytes tell it. Zero pages, as in a store that was never written, hold none.
pub record StoreLaw : Type 0 where
  pub one : (size : ℕ) (pages : Pages) (all other : PlainTables) → IsStoreOf size pages all → TablesOf size pages other
      → other ≡ all
  pub fresh : (size : ℕ) (pages : Pages) → AreZero size pages → 2 ≤ size → size < 2 ^ 32
      → IsStoreOf size pages no_tables
  pub bytes : (size : ℕ) (pages after : Pages) (all : PlainTables) → IsStoreOf size pages all
      → ((page : ℕ) → after.at page ≡ pages.at page) → IsStoreOf size after all

-- a table without what it holds
abbrev pub without_contents : PlainTable → TableSchema
without_contents table = record { name = table.name; columns = table.columns }

-- the row numbers rise, and lie below the next one
pub record IsNumbered (table : PlainTable) : Type 0 where
  pub rise : (i j : ℕ) (d : ℕ × List Value) → i < j → j < length table.rows
      → (slice_index_or table.rows i d).0 < (slice_index_or table.rows j d).0
  pub below : (i : ℕ) (d : ℕ × List Value) → i < length table.rows
      → (slice_index_or table.rows i d).0 < table.next_number

-- what is read of the tables: the schema, and the rows and the next row number of each table
pub record ReadLaw : Type 0 where
  pub schema : (size : ℕ) (pages : Pages) (all : PlainTables) (answer : Result Schema Refusal)
      → IsStoreOf size pages all → schema_in size pages answer
      → IsRead (λ (schema : Schema). (schema.tables ≡ map without_contents all.tables) × (schema.indexes ≡ all.indexes))
      answer
  pub rows : (size : ℕ) (pages : Pages) (all : PlainTables) (table : PlainTable) (answer : Result (List Placed) Refusal)
      → IsStoreOf size pages all → Contains all.tables table → rows_in size pages table.name answer
      → IsRead (λ (rows : List Placed). map numbered_row rows ≡ table.rows) answer
  pub numbered : (size : ℕ) (pages : Pages) (all : PlainTables) (table : PlainTable) → IsStoreOf size pages all
      → Contains all.tables table → IsNumbered table
  pub next_number : (size : ℕ) (pages : Pages) (all : PlainTables) (table : PlainTable) (answer : Result ℕ Refusal)
      → IsStoreOf size pages all → Contains all.tables table → next_in size pages table.name answer
      → IsRead (λ (number : ℕ). number ≡ table.next_number) answer

-- a row that the table can hold: it can be stored, and has one value of each column's kind
abbrev pub IsRowFor : PlainTable → List Value → Type 0
IsRowFor table row = IsStorable row × (fits table.columns row ≡ true)

-- the table with more rows, which stand last, in order, under the next row numbers
abbrev pub with_rows : List (List Value) → PlainTable → PlainTable
with_rows rows table = record table {
  next_number = table.next_number + length rows;
  rows = table.rows ++ numbered table.next_number rows;
}

-- Rows are inserted into a table. That is refused only for want of pages.
abbrev pub InsertLaw : Type 0
InsertLaw = (size : ℕ) (pages : Pages) (all : PlainTables) (table : PlainTable) (rows : List (List Value))
    (answer : Result (Unit {0} × Pages) Refusal)
    → IsStoreOf size pages all → Contains all.tables table → AllByRecursion (IsRowFor table) rows
    → table.next_number + length rows < 2 ^ 64
    → inserted added size pages table.name rows answer
    → LeavesOrIsFull size
    (λ after. IsStoreOf size after (with_table (with_rows rows table) all) × Reaches size pages table.name after)
    answer

-- Rows that are added to a table edit its first page, the last one, and where they open pages, those and the root page;
-- and no other. What an insert edits besides is on pages of the table's indexes or was taken for them, and the root
-- page where some were taken.
abbrev pub EditsLaw : Type 0
EditsLaw = (size : ℕ) (pages after : Pages) (all : PlainTables) (table : PlainTable) (stored : StoredTable)
    (rows : List (List Value)) (placed : List Placed)
    → IsStoreOf size pages all → Contains all.tables table → AllByRecursion (IsRowFor table) rows
    → table.next_number + length rows < 2 ^ 64 → 1 ≤ length rows
    → table_in size pages table.name (Ok stored) → all_placed size stored.first rows pages (Ok (placed, after))
    → EditsEnds size pages table.name rows after

-- numbers of rows of the table, no two the same
abbrev pub AreNumbersOf : PlainTable → List ℕ → Type 0
AreNumbersOf table numbers =
    AllByRecursion (λ (number : ℕ). Contains (map (λ (row : ℕ × List Value). row.0) table.rows) number) numbers
    × AreDifferent numbers

-- the table without the rows of these numbers; the next row number stays
abbrev pub without_rows : List ℕ → PlainTable → PlainTable
without_rows numbers table = record table
    { rows = filter (λ (row : ℕ × List Value). not (list_any (λ number. row.0 == number) numbers)) table.rows }

-- Rows of a table are deleted. That is never refused.
abbrev pub DeleteLaw : Type 0
DeleteLaw = (size : ℕ) (pages : Pages) (all : PlainTables) (table : PlainTable) (numbers : List ℕ)
    (answer : Result (Unit {0} × Pages) Refusal)
    → IsStoreOf size pages all → Contains all.tables table → AreNumbersOf table numbers
    → deleted removed size pages table.name numbers answer
    → DoesOrIsFull size
    (λ u after. IsStoreOf size after (with_table (without_rows numbers table) all)
    × Reaches size pages table.name after) ⊥ answer

-- a row after changes: the change of its number, where there is one
abbrev pub changed_to : List (ℕ × List Value) → ℕ × List Value → ℕ × List Value
changed_to [] row = row
changed_to (change ∷ changes) row = if row.0 == change.0 then change else changed_to changes row

-- the table after changes of its rows
abbrev pub with_changes : List (ℕ × List Value) → PlainTable → PlainTable
with_changes changes table = record table { rows = map (changed_to changes) table.rows }

-- changes of rows of the table, no two of the same row
abbrev pub AreChangesOf : PlainTable → List (ℕ × List Value) → Type 0
AreChangesOf table changes =
    AreNumbersOf table (map (λ (change : ℕ × List Value). change.0) changes)
    × AllByRecursion (λ (change : ℕ × List Value). IsRowFor table change.1) changes

-- Rows of a table are changed, each under its number. That is refused only for want of pages.
abbrev pub UpdateLaw : Type 0
UpdateLaw = (size : ℕ) (pages : Pages) (all : PlainTables) (table : PlainTable) (changes : List (ℕ × List Value))
    (answer : Result (Unit {0} × Pages) Refusal)
    → IsStoreOf size pages all → Contains all.tables table → AreChangesOf table changes
    → updated added removed size pages table.name changes answer
    → LeavesOrIsFull size
    (λ after. IsStoreOf size after (with_table (with_changes changes table) all)
    × Reaches size pages table.name after) answer

-- a name that neither a table nor an index has
pub record IsNewName (all : PlainTables) (name : List ℕ) : Type 0 where
  pub is_name : IsName name
  pub of_tables : AllByRecursion (λ (table : PlainTable). table.name ≢ name) all.tables
  pub of_indexes : AllByRecursion (λ (index : IndexSchema). index.name ≢ name) all.indexes

-- the columns of a table: one to sixteen, with different names
pub record AreTableColumns (columns : List TableColumn) : Type 0 where
  pub some : 1 ≤ length columns
  pub few : length columns ≤ COLUMNS
  pub are_names : AllByRecursion (λ (column : TableColumn). IsName column.name) columns
  pub differ : AreDifferent (map (λ (column : TableColumn). column.name) columns)

-- a table without rows
abbrev pub empty_table : List ℕ → List TableColumn → PlainTable
empty_table name columns = record { name = name; columns = columns; next_number = 0; rows = [] }

-- the tables with this one as the last; all else as before
abbrev pub with_new : PlainTable → PlainTables → PlainTables
with_new table all = record all { tables = all.tables ++ table ∷ [] }

-- A table is made without rows. That is refused only for want of pages.
abbrev pub CreateLaw : Type 0
CreateLaw = (size : ℕ) (pages : Pages) (all : PlainTables) (name : List ℕ) (columns : List TableColumn)
    (answer : Result (Unit {0} × Pages) Refusal)
    → IsStoreOf size pages all → IsNewName all name → AreTableColumns columns
    → created size pages name columns answer
    → LeavesOrIsFull size
    (λ after. IsStoreOf size after (with_new (empty_table name columns) all) × ReachesCatalog size pages after)
    answer

-- a table has a column of that name
abbrev pub HasColumn : List ℕ → PlainTable → Type 0
HasColumn column table = Contains (map (λ (other : TableColumn). other.name) table.columns) column

-- the tables with this index as the last one; all else as before
abbrev pub with_index : IndexSchema → PlainTables → PlainTables
with_index index all = record all { indexes = all.indexes ++ index ∷ [] }

-- An index over a column of a table is made. That is refused only for want of pages.
abbrev pub IndexLaw : Type 0
IndexLaw = (size : ℕ) (pages : Pages) (all : PlainTables) (table : PlainTable) (name column : List ℕ)
    (answer : Result (Unit {0} × Pages) Refusal)
    → IsStoreOf size pages all → Contains all.tables table → IsNewName all name → HasColumn column table
    → indexed made added size pages name table.name column answer
    → LeavesOrIsFull size
    (λ after. IsStoreOf size after (with_index (record { name = name; table = table.name; column = column }) all)
    × ReachesCatalog size pages after) answer

-- An insert, an update, a new table and an index take the pages that they need, and are refused exactly where fewer are
-- free.
pub record NeedsLaw : Type 0 where
  pub insert : (size : ℕ) (pages : Pages) (all : PlainTables) (table : PlainTable) (rows : List (List Value))
      (answer : Result (Unit {0} × Pages) Refusal)
      → IsStoreOf size pages all → Contains all.tables table → AllByRecursion (IsRowFor table) rows
      → table.next_number + length rows < 2 ^ 64
      → inserted added size pages table.name rows answer
      → (needs : ℕ) × InsertNeeds size pages table.name rows needs × TakesNeeded size pages needs answer
  pub update : (size : ℕ) (pages : Pages) (all : PlainTables) (table : PlainTable) (changes : List (ℕ × List Value))
      (answer : Result (Unit {0} × Pages) Refusal)
      → IsStoreOf size pages all → Contains all.tables table → AreChangesOf table changes
      → updated added removed size pages table.name changes answer
      → (needs : ℕ) × UpdateNeeds size pages table.name changes needs × TakesNeeded size pages needs answer
  pub create : (size : ℕ) (pages : Pages) (all : PlainTables) (name : List ℕ) (columns : List TableColumn)
      (answer : Result (Unit {0} × Pages) Refusal)
      → IsStoreOf size pages all → IsNewName all name → AreTableColumns columns
      → created size pages name columns answer
      → (needs : ℕ) × CreateNeeds size pages name columns needs × TakesNeeded size pages needs answer
  pub index : (size : ℕ) (pages : Pages) (all : PlainTables) (table : PlainTable) (name column : List ℕ)
      (answer : Result (Unit {0} × Pages) Refusal)
      → IsStoreOf size pages all → Contains all.tables table → IsNewName all name → HasColumn column table
      → indexed made added size pages name table.name column answer
      → (needs : ℕ) × IndexNeeds size pages name table.name column needs × TakesNeeded size pages needs answer

-- a change as it stands in a table, told by its row's number
abbrev pub numbered_change : RowChange → ℕ × List Value
numbered_change change = (change.was.number, change.row)

-- Rows that are changed or taken out where they stand, as reading their table told, are so under their numbers.
pub record PlacedLaw : Type 0 where
  pub told : (size : ℕ) (pages : Pages) (all : PlainTables) (table : PlainTable) (stored : StoredTable)
      (rows : List Placed) (placed : Placed)
      → IsStoreOf size pages all → Contains all.tables table → table_in size pages table.name (Ok stored)
      → rows_at size pages stored (Ok rows)
      → Contains rows placed → placed_of stored.first placed.number rows ≡ Ok placed
  pub changes : (first : ℕ) (rows : List Placed) (changes : List RowChange)
      → AllByRecursion (λ (change : RowChange). placed_of first change.was.number rows ≡ Ok change.was) changes
      → each (change_of first rows) (map numbered_change changes) (Ok changes)
  pub removes : (first : ℕ) (rows gone : List Placed)
      → AllByRecursion (λ (placed : Placed). placed_of first placed.number rows ≡ Ok placed) gone
      → each (λ number. only (placed_of first number rows)) (map (λ (placed : Placed). placed.number) gone) (Ok gone)

-- whether a value is there, and at least `low` and at most `high`
abbrev pub value_between : Value → Value → Option Value → Bool
value_between low high None = false
value_between low high (Some value) = not (is_lt (value_cmp value low)) && not (is_gt (value_cmp value high))

-- whether that is so of a row's value in the column at that place
abbrev pub lies_between : ℕ → Value → Value → Placed → Bool
lies_between place low high placed = value_between low high (slice_get placed.row place)

-- The rows that an index of a table lists from a value to another of the column's kind are those of the table, in
-- rising number, whose value in the column lies there. That is never refused.
abbrev pub RangedLaw : Type 0
RangedLaw = (size : ℕ) (pages : Pages) (all : PlainTables) (table : PlainTable) (stored : StoredTable)
    (index : StoredIndex) (column : TableColumn) (low high : Value) (rows : List Placed)
    (answer : Result (List Placed) Refusal)
    → IsStoreOf size pages all → Contains all.tables table → table_in size pages table.name (Ok stored)
    → Contains stored.indexes index → slice_get stored.columns index.place ≡ Some column → kind_of low ≡ column.kind
    → kind_of high ≡ column.kind
    → rows_at size pages stored (Ok rows) → ranged_at ranged size pages stored index low high answer
    → answer ≡ Ok (filter (lies_between index.place low high) rows)
