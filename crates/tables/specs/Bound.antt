-- What is bound once for a statement, and what it makes of rows. No promise above cites more of it than `assigns`.
use Rattle.std.specs.Prelude.{ℕ, Bool, List, [], ◌∷◌, Option, Result, Ok, Err, if◌then◌else◌, slice_set}
use Rattle.retro_base.specs.Gives.{◌>>=◌}
use Rattle.retro_base.specs.declared.refusal.Refusal.{Refusal}
use Rattle.values.specs.declared.value.Value.{Value}
use Rattle.sql_tree.specs.Evaluation.{value_of}
use Rattle.sql_tree.specs.Scope.{column_place}
use Rattle.sql_tree.specs.declared.schema.TableSchema.{TableSchema}
use Rattle.sql_tree.specs.declared.statement.Assignment.{Assignment}
use Rattle.evaluation.specs.Bound.{value_at}
use Rattle.tables.specs.Meaning.{known, set_row}
use Rattle.tables.specs.declared.assigning.BoundAssignment.{BoundAssignment}
use Rattle.tables.specs.declared.assigning.BoundAssignments.{BoundAssignments}
use Rattle.tables.specs.declared.contents.NumberedRow.{NumberedRow}

-- what gives an assignment's value at a row, and the place of its column
abbrev pub Part : Type 0
Part = (List Value → Result Value Refusal) × Option ℕ

abbrev pub part : BoundAssignment → Part
part bound = (value_at bound.value, bound.place)

abbrev pub part_of : TableSchema → Option ℕ → Assignment → Part
part_of table snapshot a = ((λ row. value_of (table ∷ []) snapshot row a.value), column_place a.column table.columns)

-- a row with its values set; each value is worked out from the row as it was before
abbrev pub assigns_all : List BoundAssignment → List Value → List Value → Result (List Value) Refusal
assigns_all [] before row = Ok row
assigns_all (a ∷ assignments) before row = do
  value ← value_at a.value before
  place ← known a.place
  assigns_all assignments before (slice_set row place value)

abbrev pub assigns : BoundAssignments → List Value → Result (List Value) Refusal
assigns bound row = assigns_all bound.assignments row row

-- what UPDATE and DELETE make of a row, by what keeps rows and what sets their values
abbrev pub updated_by : (List Value → Result Bool Refusal) → (List Value → Result (List Value) Refusal) → NumberedRow →
    Result (List NumberedRow × ℕ) Refusal
updated_by keeps sets row = do
  holds ← keeps row.row
  if holds then set_row row (sets row.row) else Ok (row ∷ [], 0)

abbrev pub remaining_by : (List Value → Result Bool Refusal) → NumberedRow → Result (List NumberedRow × ℕ) Refusal
remaining_by keeps row = do
  holds ← keeps row.row
  if holds then Ok ([], 1) else Ok (row ∷ [], 0)
