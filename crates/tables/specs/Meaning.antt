-- The meaning of a statement: what it does to the tables, and what it replies.
use Rattle.std.specs.Prelude.{◌+◌, ◌-◌, ◌^◌, ◌++◌, ℕ, Bool, List, [], ◌∷◌, length, Option}
use Rattle.std.specs.Prelude.{Some, None, Result, Ok, Err, if◌then◌else◌, nat_le, slice_set}
use Rattle.retro_base.specs.Gives.{◌>>=◌}
use Rattle.retro_base.specs.declared.limits.TheConstants.{ROW_BYTES}
use Rattle.retro_base.specs.declared.refusal.Refusal.{Refusal}
use Rattle.retro_base.specs.declared.refusal.Refusal.TheVariants.{UnknownName, Overflow, RowTooLong}
use Rattle.values.specs.declared.value.Value.{Value}
use Rattle.sql_tree.specs.Evaluation.{value_of}
use Rattle.sql_tree.specs.Scope.{column_place}
use Rattle.sql_tree.specs.declared.schema.TableSchema.{TableSchema}
use Rattle.sql_tree.specs.declared.select.Select.{Select as SelectRecord}
use Rattle.sql_tree.specs.declared.statement.Assignment.{Assignment}
use Rattle.sql_tree.specs.declared.statement.Delete.{Delete as DeleteRecord}
use Rattle.sql_tree.specs.declared.statement.Statement.{Statement}
use Rattle.sql_tree.specs.declared.statement.Statement.TheVariants.{CreateTable, CreateIndex, Insert}
use Rattle.sql_tree.specs.declared.statement.Statement.TheVariants.{Update, Delete, Select}
use Rattle.sql_tree.specs.declared.statement.Update.{Update as UpdateRecord}
use Rattle.sql_check.specs.Check.{checked}
use Rattle.sql_check.specs.Outputs.{answer_columns}
use Rattle.sql_select.specs.Rows.{holds_at}
use Rattle.sql_select.specs.Select.{answer}
use Rattle.sql_select.specs.declared.answer.Answer.{Answer}
use Rattle.tables.specs.declared.contents.Contents.{Contents}
use Rattle.tables.specs.declared.contents.NumberedRow.{NumberedRow}
use Rattle.tables.specs.declared.reply.Reply.{Reply}
use Rattle.tables.specs.declared.reply.Reply.TheVariants.{Plain, Count, Rows}
use Rattle.tables.specs.Rows.{numbered, rows_of}
use Rattle.values.specs.Row.{row_bytes}
use Rattle.tables.specs.Tables.{Tables, Found, table_named, with_contents, with_index, with_table}

-- goes on where the test holds, and is refused where it does not
abbrev pub check : Bool → Refusal → Result (Unit {0}) Refusal
check holds refusal = if holds then Ok tt else Err refusal

-- goes on with what is there
abbrev pub known : {X : Type 0} → Option X → Result X Refusal
known None = Err UnknownName
known (Some x) = Ok x

-- goes on where each encoded row takes at most 900 bytes; else the first that takes more is told
abbrev pub check_lengths : List (List Value) → Result (Unit {0}) Refusal
check_lengths [] = Ok tt
check_lengths (row ∷ rows) =
    if nat_le (row_bytes row) ROW_BYTES then check_lengths rows else Err (RowTooLong (row_bytes row))

-- the tuples become the last rows, in their order, under the next row numbers; there must be numbers left for them
abbrev pub inserted : List (List Value) → Contents → Result (Contents × ℕ) Refusal
inserted tuples contents = do
  _ ← check (nat_le (contents.next + length tuples) (2 ^ 64 - 1)) Overflow
  _ ← check_lengths tuples
  Ok (
    record { next = contents.next + length tuples; rows = contents.rows ++ numbered contents.next tuples },
    length tuples,
  )

-- what becomes of rows, each by itself, and how many are counted; the first refusal stands
abbrev pub reworked : (NumberedRow → Result (List NumberedRow × ℕ) Refusal) → List NumberedRow →
    Result (List NumberedRow × ℕ) Refusal
reworked step [] = Ok ([], 0)
reworked step (row ∷ rows) = do
  here ← step row
  rest ← reworked step rows
  Ok (here.0 ++ rest.0, here.1 + rest.1)

-- a row with its values set; each value is worked out from the row as it was before the statement
abbrev pub assigned : TableSchema → Option ℕ → List Value → List Assignment → List Value → Result (List Value) Refusal
assigned table snapshot before [] row = Ok row
assigned table snapshot before (a ∷ assignments) row = do
  value ← value_of (table ∷ []) snapshot before a.value
  place ← known (column_place a.column table.columns)
  assigned table snapshot before assignments (slice_set row place value)

-- a row with other values under its number, which is counted
abbrev pub set_row : NumberedRow → Result (List Value) Refusal → Result (List NumberedRow × ℕ) Refusal
set_row row (Ok values) = Ok (record { number = row.number; row = values } ∷ [], 1)
set_row row (Err why) = Err why

-- a row for which the condition holds gets its values, and keeps its number
abbrev pub updated_row : TableSchema → Option ℕ → UpdateRecord → NumberedRow → Result (List NumberedRow × ℕ) Refusal
updated_row table snapshot update row = do
  holds ← holds_at (table ∷ []) snapshot update.condition row.row
  if holds then set_row row (assigned table snapshot row.row update.assignments row.row) else Ok (row ∷ [], 0)

abbrev pub updated : Option ℕ → UpdateRecord → TableSchema → Contents → Result (Contents × ℕ) Refusal
updated snapshot update table contents = do
  after ← reworked (updated_row table snapshot update) contents.rows
  _ ← check_lengths (rows_of after.0)
  Ok (record contents { rows = after.0 }, after.1)

-- a row for which the condition holds goes, and is counted
abbrev pub remaining_row : TableSchema → Option ℕ → DeleteRecord → NumberedRow → Result (List NumberedRow × ℕ) Refusal
remaining_row table snapshot delete row = do
  holds ← holds_at (table ∷ []) snapshot delete.condition row.row
  if holds then Ok ([], 1) else Ok (row ∷ [], 0)

abbrev pub remaining : Option ℕ → DeleteRecord → TableSchema → Contents → Result (Contents × ℕ) Refusal
remaining snapshot delete table contents = do
  after ← reworked (remaining_row table snapshot delete) contents.rows
  Ok (record contents { rows = after.0 }, after.1)

-- what a change of one table's contents does to the tables; the reply is how many rows it counts
abbrev pub changed : Found → Tables → Result (Contents × ℕ) Refusal → Result (Tables × Reply) Refusal
changed found tables outcome = do
  after ← outcome
  Ok (with_contents found.place after.0 tables, Count after.1)

-- the answer over the rows of one table, or of two
abbrev pub answer_over : SelectRecord → Option ℕ → Found → Option (Option Found) → Result Answer Refusal
answer_over select snapshot first None =
    let scope = first.schema ∷ [] in
    answer select scope (answer_columns scope select.list) snapshot (rows_of first.contents.rows) None
answer_over select snapshot first (Some None) = Err UnknownName
answer_over select snapshot first (Some (Some second)) =
    let scope = first.schema ∷ second.schema ∷ [] in
    answer select scope (answer_columns scope select.list) snapshot (rows_of first.contents.rows)
    (Some (rows_of second.contents.rows))

abbrev pub second_named : Option (List ℕ) → Tables → Option (Option Found)
second_named None tables = None
second_named (Some name) tables = Some (table_named name tables)

-- the answer of a select that was checked
abbrev pub answer_of : SelectRecord → Option ℕ → Tables → Result Answer Refusal
answer_of select snapshot tables = do
  first ← known (table_named select.table tables)
  answer_over select snapshot first (second_named select.second tables)

-- what a statement does that was checked
abbrev pub performed : Statement → Option ℕ → Tables → Result (Tables × Reply) Refusal
performed (CreateTable create) snapshot tables =
    Ok (with_table (record { name = create.table; columns = create.columns }) tables, Plain)
performed (CreateIndex create) snapshot tables =
    Ok (with_index (record { name = create.index; table = create.table; column = create.column }) tables, Plain)
performed (Insert insert) snapshot tables = do
  found ← known (table_named insert.table tables)
  changed found tables (inserted insert.tuples found.contents)
performed (Update update) snapshot tables = do
  found ← known (table_named update.table tables)
  changed found tables (updated snapshot update found.schema found.contents)
performed (Delete delete) snapshot tables = do
  found ← known (table_named delete.table tables)
  changed found tables (remaining snapshot delete found.schema found.contents)
performed (Select select) snapshot tables = do
  answer ← answer_of select snapshot tables
  Ok (tables, Rows answer)

-- The tables after a statement and its reply, or why it is refused: first its names and types are checked. `snapshot`
-- is the number of `current_snapshot()`, where there is one. A refused statement leaves the tables as they were.
abbrev pub does : Statement → Option ℕ → Tables → Result (Tables × Reply) Refusal
does statement snapshot tables = do
  _ ← checked statement snapshot tables.schema
  performed statement snapshot tables

-- the answer of a select, or why it is refused
abbrev pub asked : SelectRecord → Option ℕ → Tables → Result Answer Refusal
asked select snapshot tables = do
  _ ← checked (Select select) snapshot tables.schema
  answer_of select snapshot tables
