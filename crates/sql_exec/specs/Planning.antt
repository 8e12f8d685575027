-- A statement over tables as a piece of work on tables by name.
use Rattle.std.specs.Prelude.{◌==◌, ◌++◌, ℕ, List, [], ◌∷◌, map, Option, Some, None, Result, Ok, Err, if◌then◌else◌}
use Rattle.retro_base.specs.Gives.{◌>>=◌}
use Rattle.retro_base.specs.declared.refusal.Refusal.{Refusal}
use Rattle.values.specs.declared.value.Value.{Value}
use Rattle.sql_tree.specs.declared.schema.TableSchema.{TableSchema}
use Rattle.sql_tree.specs.declared.statement.Delete.{Delete as DeleteRecord}
use Rattle.sql_tree.specs.declared.statement.Statement.{Statement}
use Rattle.sql_tree.specs.declared.statement.Statement.TheVariants.{CreateTable, CreateIndex, Insert}
use Rattle.sql_tree.specs.declared.statement.Statement.TheVariants.{Update, Delete, Select}
use Rattle.sql_tree.specs.declared.statement.Update.{Update as UpdateRecord}
use Rattle.tables.specs.declared.contents.NumberedRow.{NumberedRow}
use Rattle.tables.specs.Meaning.{known, remaining_row, updated_row}
use Rattle.tables.specs.Tables.{Tables, table_named}
use Rattle.relation_laws.specs.Work.{Work}
use Rattle.relation_laws.specs.Work.Work.{Creates, Indexes, Inserts, Changes, Removes}

-- what is picked of each item, in order; the first refusal stands
abbrev pub picked : {A B : Type 0} → (A → Result (List B) Refusal) → List A → Result (List B) Refusal
picked step [] = Ok []
picked step (x ∷ xs) = do
  here ← step x
  others ← picked step xs
  Ok (here ++ others)

-- what is made of the rows that become of a row which a statement counts, and nothing where it does not count it
abbrev pub counted : {A : Type 0} → (List NumberedRow → List A) → Result (List NumberedRow × ℕ) Refusal
    → Result (List A) Refusal
counted make (Ok after) = Ok (if after.1 == 0 then [] else make after.0)
counted make (Err why) = Err why

-- rows under their numbers
abbrev pub under_numbers : List NumberedRow → List (ℕ × List Value)
under_numbers rows = map (λ (row : NumberedRow). (row.number, row.row)) rows

-- the change of a row by an update
abbrev pub row_changes : TableSchema → Option ℕ → UpdateRecord → NumberedRow → Result (List (ℕ × List Value)) Refusal
row_changes table snapshot update row = counted under_numbers (updated_row table snapshot update row)

-- the number of a row that a delete takes out
abbrev pub row_numbers : TableSchema → Option ℕ → DeleteRecord → NumberedRow → Result (List ℕ) Refusal
row_numbers table snapshot delete row =
    counted (λ (after : List NumberedRow). row.number ∷ []) (remaining_row table snapshot delete row)

-- The piece of work that a statement is, if it is one: of a table or an index that is made, of the tuples of an insert,
-- of the rows that an update counts, with what becomes of them, or of those that a delete counts.
abbrev pub work_of : Statement → Option ℕ → Tables → Result (Option Work) Refusal
work_of (CreateTable create) snapshot tables = Ok (Some (Creates create.table create.columns))
work_of (CreateIndex create) snapshot tables = Ok (Some (Indexes create.index create.table create.column))
work_of (Insert insert) snapshot tables = Ok (Some (Inserts insert.table insert.tuples))
work_of (Update update) snapshot tables = do
  found ← known (table_named update.table tables)
  changes ← picked (row_changes found.schema snapshot update) found.contents.rows
  Ok (Some (Changes update.table changes))
work_of (Delete delete) snapshot tables = do
  found ← known (table_named delete.table tables)
  numbers ← picked (row_numbers found.schema snapshot delete) found.contents.rows
  Ok (Some (Removes delete.table numbers))
work_of (Select select) snapshot tables = Ok None
