-- What a statement does to the pages, whatever they hold, and what it replies.
use Rattle.std.specs.Prelude.{◌≤◌, ℕ, List, [], ◌∷◌, length, map, Option, Result, Ok, Err}
use Rattle.std.specs.List.{AllByRecursion}
use Rattle.retro_base.specs.declared.limits.TheConstants.{COLUMNS}
use Rattle.retro_base.specs.declared.refusal.Refusal.{Refusal}
use Rattle.values.specs.declared.value.Value.{Value}
use Rattle.row_codec.specs.RowCode.{IsRow}
use Rattle.values.specs.Name.{IsName}
use Rattle.sql_tree.specs.Scope.{column_place}
use Rattle.sql_tree.specs.declared.schema.TableSchema.{TableSchema}
use Rattle.sql_tree.specs.declared.statement.Column.{Column}
use Rattle.sql_tree.specs.declared.statement.CreateIndex.{CreateIndex as IndexRecord}
use Rattle.sql_tree.specs.declared.statement.CreateTable.{CreateTable as CreateRecord}
use Rattle.sql_tree.specs.declared.statement.Delete.{Delete as DeleteRecord}
use Rattle.sql_tree.specs.declared.statement.Statement.{Statement}
use Rattle.sql_tree.specs.declared.statement.Statement.TheVariants.{CreateTable, CreateIndex, Insert}
use Rattle.sql_tree.specs.declared.statement.Statement.TheVariants.{Update, Delete, Select}
use Rattle.sql_tree.specs.declared.statement.Update.{Update as UpdateRecord}
use Rattle.tables.specs.declared.contents.NumberedRow.{NumberedRow}
use Rattle.tables.specs.declared.reply.Reply.{Reply}
use Rattle.tables.specs.declared.reply.Reply.TheVariants.{Plain, Count, Rows}
use Rattle.tables.specs.Meaning.{check_lengths, inserted, known, remaining_row, updated_row}
use Rattle.pager.specs.Allows.{◌>>=◌, only}
use Rattle.pager.specs.Pages.{Pages}
use Rattle.heap_file.specs.declared.chain.Placed.{Placed}
use Rattle.heap_file.specs.Work.{next_of}
use Rattle.relation.specs.declared.catalog.Catalog.{Catalog}
use Rattle.relation.specs.declared.catalog.StoredTable.{StoredTable}
use Rattle.relation.specs.Catalog.{table_named}
use Rattle.relation.specs.declared.drafting.RowChange.{RowChange}
use Rattle.relation.specs.Work.{created, table_deleted, table_indexed, table_inserted, table_updated}
use Rattle.tree_index.specs.Work.{added, made, removed}
use Rattle.sql_exec.specs.Asking.{answered, opened}
use Rattle.sql_exec.specs.Planning.{counted, picked}
use Rattle.sql_exec.specs.Reading.{read_at, schema_at}

-- goes on with what the types of what is given say of it
abbrev pub given : Type 0 → Result (Unit {0}) Refusal → Type 0
given holds (Ok done) = holds
given holds (Err why) = ⊥

-- what names are, of a table and its columns
abbrev pub AreNames : CreateRecord → Type 0
AreNames create = IsName create.table × AllByRecursion (λ (column : Column). IsName column.name) create.columns

-- a table is made
abbrev pub made_table : ℕ → CreateRecord → Pages → Result (Reply × Pages) Refusal → Type 0
made_table size create pages = do
  named ← given (AreNames create)
  done ← created size pages create.table create.columns
  only (Ok (Plain, done.1))

-- an index over a column of a table is made, with an entry for each of its rows
abbrev pub made_index : ℕ → IndexRecord → StoredTable → Pages → Result (Reply × Pages) Refusal → Type 0
made_index size create table pages = do
  place ← only (known (column_place create.column table.columns))
  named ← given (IsName create.index)
  done ← table_indexed made added size create.index table place pages
  only (Ok (Plain, done.1))

-- tuples are added to a table and its indexes, as the next row number and their lengths allow
abbrev pub inserted_into : ℕ → List (List Value) → StoredTable → Pages → Result (Reply × Pages) Refusal → Type 0
inserted_into size tuples table pages = do
  next ← next_of size pages table.first
  after ← only (inserted tuples (record { next = next; rows = [] }))
  lawful ← given (AllByRecursion IsRow tuples)
  done ← table_inserted added size table tuples pages
  only (Ok (Count after.1, done.1))

-- a stored row under its number
abbrev pub numbered_at : Placed → NumberedRow
numbered_at placed = record { number = placed.number; row = placed.row }

-- a row as it stands, and what it becomes
abbrev pub changes_on : Placed → List NumberedRow → List RowChange
changes_on placed rows = map (λ (row : NumberedRow). record { was = placed; row = row.row }) rows

-- a row that an update counts, as it stands, and what it becomes
abbrev pub placed_changes : TableSchema → Option ℕ → UpdateRecord → Placed → Result (List RowChange) Refusal
placed_changes table snapshot update placed =
    counted (changes_on placed) (updated_row table snapshot update (numbered_at placed))

-- a row that a delete counts
abbrev pub placed_gone : TableSchema → Option ℕ → DeleteRecord → Placed → Result (List Placed) Refusal
placed_gone table snapshot delete placed =
    counted (λ (after : List NumberedRow). placed ∷ [])
    (remaining_row table snapshot delete (numbered_at placed))

-- a row of one to sixteen values
abbrev pub IsOfWidth : List Value → Type 0
IsOfWidth row = (1 ≤ length row) × (length row ≤ COLUMNS)

-- what rows become
abbrev pub values_of : List RowChange → List (List Value)
values_of changes = map (λ (change : RowChange). change.row) changes

-- the rows that an update counts, of those that it reads, become others, under their numbers, and the indexes follow
abbrev pub updated_in : ℕ → Option ℕ → UpdateRecord → StoredTable → Pages → Result (Reply × Pages) Refusal → Type 0
updated_in size snapshot update table pages = do
  rows ← read_at size pages table update.condition
  changes ← only (picked (placed_changes (schema_at table) snapshot update) rows)
  short ← only (check_lengths (values_of changes))
  lawful ← given (AllByRecursion IsRow (values_of changes))
  done ← table_updated added removed size table changes pages
  only (Ok (Count (length changes), done.1))

-- the rows that a delete counts, of those that it reads, are taken out, and their entries of the indexes
abbrev pub deleted_from : ℕ → Option ℕ → DeleteRecord → StoredTable → Pages → Result (Reply × Pages) Refusal → Type 0
deleted_from size snapshot delete table pages = do
  rows ← read_at size pages table delete.condition
  gone ← only (picked (placed_gone (schema_at table) snapshot delete) rows)
  done ← table_deleted removed size table gone pages
  only (Ok (Count (length gone), done.1))

-- a table of the catalog
abbrev pub at_table : {A : Type 0} → Catalog → List ℕ → (StoredTable → Result A Refusal → Type 0) → Result A Refusal
    → Type 0
at_table catalog name does = do
  table ← only (known (table_named name catalog.tables))
  does table

-- what a statement does that was checked against that catalog
abbrev pub done_on : ℕ → Catalog → Statement → Option ℕ → Pages → Result (Reply × Pages) Refusal → Type 0
done_on size catalog (CreateTable create) snapshot pages = made_table size create pages
done_on size catalog (CreateIndex create) snapshot pages =
    at_table catalog create.table (λ table. made_index size create table pages)
done_on size catalog (Insert insert) snapshot pages =
    at_table catalog insert.table (λ table. inserted_into size insert.tuples table pages)
done_on size catalog (Update update) snapshot pages =
    at_table catalog update.table (λ table. updated_in size snapshot update table pages)
done_on size catalog (Delete delete) snapshot pages =
    at_table catalog delete.table (λ table. deleted_from size snapshot delete table pages)
done_on size catalog (Select select) snapshot pages = do
  answer ← answered size catalog select snapshot pages
  only (Ok (Rows answer, pages))

-- what a statement does, and what it replies
abbrev pub ran : ℕ → Statement → Option ℕ → Pages → Result (Reply × Pages) Refusal → Type 0
ran size statement snapshot pages = do
  catalog ← opened size statement snapshot pages
  done_on size catalog statement snapshot pages
