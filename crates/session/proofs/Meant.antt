-- A statement is refused by its meaning alone: by no refusal of a store's pages, and never for want of memory.
use Rattle.std.proofs.Common.{◌≡◌, ◌+◌, ◌-◌, ◌^◌, ℕ, List, [], ◌∷◌, length, Option, Some, None, Result, Ok, Err, subst}
use Rattle.std.specs.Prelude.{nat_le, slice_set}
use Rattle.retro_base.specs.declared.limits.TheConstants.{ROW_BYTES}
use Rattle.retro_base.specs.declared.refusal.Refusal.{Refusal}
use Rattle.retro_base.specs.declared.refusal.Refusal.TheVariants as refusal
use Rattle.values.specs.declared.value.Value.{Value}
use Rattle.sql_tree.specs.Evaluation.{value_of}
use Rattle.sql_tree.specs.Scope.{column_place}
use Rattle.sql_tree.specs.declared.schema.Schema.{Schema}
use Rattle.sql_tree.specs.declared.schema.TableSchema.{TableSchema}
use Rattle.sql_tree.specs.declared.select.Select.{Select as SelectRecord}
use Rattle.sql_tree.specs.declared.statement.Assignment.{Assignment}
use Rattle.sql_tree.specs.declared.statement.Delete.{Delete as DeleteRecord}
use Rattle.sql_tree.specs.declared.statement.Statement.{Statement}
use Rattle.sql_tree.specs.declared.statement.Statement.TheVariants.{CreateTable, CreateIndex, Insert, Update, Delete, Select}
use Rattle.sql_tree.specs.declared.statement.Update.{Update as UpdateRecord}
use Rattle.sql_check.specs.Check.{checked, has_unknown_name, has_wrong_type, takes_taken_name}
use Rattle.sql_check.specs.Outputs.{answer_columns}
use Rattle.sql_select.specs.Rows.{holds_at}
use Rattle.tables.specs.Meaning.{answer_of, answer_over, assigned, changed, check, check_lengths, does, inserted, known, performed, remaining, remaining_row, reworked, second_named, set_row, updated, updated_row}
use Rattle.tables.specs.Rows.{rows_of}
use Rattle.values.specs.Row.{row_bytes}
use Rattle.tables.specs.Tables.{Found, Tables, table_named}
use Rattle.tables.specs.declared.contents.Contents.{Contents}
use Rattle.tables.specs.declared.contents.NumberedRow.{NumberedRow}
use Rattle.session.proofs.Named.{IsOfMeaning, Means, answer_means, holds_means, if_means, then_means, value_means}

known_means : {X : Type 0} (o : Option X) → Means (known o)
known_means None = tt
known_means (Some x) = tt

lengths_means : (rows : List (List Value)) → Means (check_lengths rows)
lengths_means [] = tt
lengths_means (row ∷ rows) = if_means (nat_le (row_bytes row) ROW_BYTES) (check_lengths rows) (Err (refusal.RowTooLong (row_bytes row))) (lengths_means rows) tt

inserted_means : (tuples : List (List Value)) (contents : Contents) → Means (inserted tuples contents)
inserted_means tuples contents =
    then_means (check (nat_le (contents.next + length tuples) (2 ^ 64 - 1)) refusal.Overflow) _ (if_means (nat_le (contents.next + length tuples) (2 ^ 64 - 1)) (Ok tt) (Err refusal.Overflow) tt tt)
    (λ u. then_means (check_lengths tuples) _ (lengths_means tuples) (λ v. tt))

reworked_means : (step : NumberedRow → Result (List NumberedRow × ℕ) Refusal) (rows : List NumberedRow) → ((row : NumberedRow) → Means (step row)) → Means (reworked step rows)
reworked_means step [] is = tt
reworked_means step (row ∷ rows) is = then_means (step row) _ (is row) (λ here. then_means (reworked step rows) _ (reworked_means step rows is) (λ rest. tt))

assigned_means : (table : TableSchema) (snapshot : Option ℕ) (before : List Value) (assignments : List Assignment) (row : List Value) → Means (assigned table snapshot before assignments row)
assigned_means table snapshot before [] row = tt
assigned_means table snapshot before (a ∷ assignments) row =
    then_means (value_of (table ∷ []) snapshot before a.value) _ (value_means (table ∷ []) snapshot before a.value)
    (λ value. then_means (known (column_place a.column table.columns)) _ (known_means (column_place a.column table.columns)) (λ place. assigned_means table snapshot before assignments (slice_set row place value)))

set_means : (row : NumberedRow) (r : Result (List Value) Refusal) → Means r → Means (set_row row r)
set_means row (Ok values) is = tt
set_means row (Err why) is = is

updated_row_means : (table : TableSchema) (snapshot : Option ℕ) (update : UpdateRecord) (row : NumberedRow) → Means (updated_row table snapshot update row)
updated_row_means table snapshot update row =
    then_means (holds_at (table ∷ []) snapshot update.condition row.row) _ (holds_means (table ∷ []) snapshot update.condition row.row)
    (λ holds. if_means holds (set_row row (assigned table snapshot row.row update.assignments row.row)) (Ok (row ∷ [], 0)) (set_means row _ (assigned_means table snapshot row.row update.assignments row.row)) tt)

updated_means : (snapshot : Option ℕ) (update : UpdateRecord) (table : TableSchema) (contents : Contents) → Means (updated snapshot update table contents)
updated_means snapshot update table contents =
    then_means (reworked (updated_row table snapshot update) contents.rows) _ (reworked_means (updated_row table snapshot update) contents.rows (updated_row_means table snapshot update))
    (λ after. then_means (check_lengths (rows_of after.0)) _ (lengths_means (rows_of after.0)) (λ u. tt))

remaining_row_means : (table : TableSchema) (snapshot : Option ℕ) (delete : DeleteRecord) (row : NumberedRow) → Means (remaining_row table snapshot delete row)
remaining_row_means table snapshot delete row =
    then_means (holds_at (table ∷ []) snapshot delete.condition row.row) _ (holds_means (table ∷ []) snapshot delete.condition row.row) (λ holds. if_means holds (Ok ([], 1)) (Ok (row ∷ [], 0)) tt tt)

remaining_means : (snapshot : Option ℕ) (delete : DeleteRecord) (table : TableSchema) (contents : Contents) → Means (remaining snapshot delete table contents)
remaining_means snapshot delete table contents =
    then_means (reworked (remaining_row table snapshot delete) contents.rows) _ (reworked_means (remaining_row table snapshot delete) contents.rows (remaining_row_means table snapshot delete)) (λ after. tt)

changed_means : (found : Found) (tables : Tables) (r : Result (Contents × ℕ) Refusal) → Means r → Means (changed found tables r)
changed_means found tables (Ok after) is = tt
changed_means found tables (Err why) is = is

over_means : (select : SelectRecord) (snapshot : Option ℕ) (first : Found) (second : Option (Option Found)) → Means (answer_over select snapshot first second)
over_means select snapshot first None = answer_means select (first.schema ∷ []) (answer_columns (first.schema ∷ []) select.list) snapshot (rows_of first.contents.rows) None
over_means select snapshot first (Some None) = tt
over_means select snapshot first (Some (Some second)) =
    answer_means select (first.schema ∷ second.schema ∷ []) (answer_columns (first.schema ∷ second.schema ∷ []) select.list) snapshot (rows_of first.contents.rows) (Some (rows_of second.contents.rows))

answer_of_means : (select : SelectRecord) (snapshot : Option ℕ) (tables : Tables) → Means (answer_of select snapshot tables)
answer_of_means select snapshot tables =
    then_means (known (table_named select.table tables)) _ (known_means (table_named select.table tables)) (λ first. over_means select snapshot first (second_named select.second tables))

performed_means : (statement : Statement) (snapshot : Option ℕ) (tables : Tables) → Means (performed statement snapshot tables)
performed_means (CreateTable create) snapshot tables = tt
performed_means (CreateIndex create) snapshot tables = tt
performed_means (Insert insert) snapshot tables =
    then_means (known (table_named insert.table tables)) _ (known_means (table_named insert.table tables)) (λ found. changed_means found tables (inserted insert.tuples found.contents) (inserted_means insert.tuples found.contents))
performed_means (Update update) snapshot tables =
    then_means (known (table_named update.table tables)) _ (known_means (table_named update.table tables))
    (λ found. changed_means found tables (updated snapshot update found.schema found.contents) (updated_means snapshot update found.schema found.contents))
performed_means (Delete delete) snapshot tables =
    then_means (known (table_named delete.table tables)) _ (known_means (table_named delete.table tables))
    (λ found. changed_means found tables (remaining snapshot delete found.schema found.contents) (remaining_means snapshot delete found.schema found.contents))
performed_means (Select select) snapshot tables = then_means (answer_of select snapshot tables) _ (answer_of_means select snapshot tables) (λ answer. tt)

checked_means : (statement : Statement) (snapshot : Option ℕ) (schema : Schema) → Means (checked statement snapshot schema)
checked_means statement snapshot schema =
    if_means (has_unknown_name statement snapshot schema) (Err refusal.UnknownName) _ tt
    (if_means (takes_taken_name statement schema) (Err refusal.NameTaken) _ tt (if_means (has_wrong_type statement schema) (Err refusal.WrongType) (Ok tt) tt tt))

does_means : (statement : Statement) (snapshot : Option ℕ) (tables : Tables) → Means (does statement snapshot tables)
does_means statement snapshot tables = then_means (checked statement snapshot tables.schema) _ (checked_means statement snapshot tables.schema) (λ u. performed_means statement snapshot tables)

-- so a statement's refusal is of its meaning
pub refused_by_meaning : (statement : Statement) (snapshot : Option ℕ) (tables : Tables) (why : Refusal) → does statement snapshot tables ≡ Err why → IsOfMeaning why
refused_by_meaning statement snapshot tables why is = subst Means is (does_means statement snapshot tables)
