-- The answer of a select. The first refusal stands: of WHERE, row by row; then of the outputs, row by row and from left
-- to right (over groups: of the columns of GROUP BY, row by row, then of the outputs, group by group); then of the keys
-- of ORDER BY.
use Rattle.std.specs.Prelude.{◌||◌, ℕ, Bool, true, false, not, List, [], ◌∷◌, map, take}
use Rattle.std.specs.Prelude.{Option, Some, None, Result, Ok, Err, if◌then◌else◌}
use Rattle.std.specs.List.{list_all}
use Rattle.retro_base.specs.Gives.{◌>>=◌}
use Rattle.retro_base.specs.declared.refusal.Refusal.{Refusal}
use Rattle.retro_base.specs.declared.refusal.Refusal.TheVariants.{UnknownName, WrongType}
use Rattle.values.specs.declared.value.Value.{Value}
use Rattle.sql_tree.specs.Evaluation.{column_value}
use Rattle.sql_tree.specs.Scope.{column_place, place_of}
use Rattle.sql_tree.specs.declared.name.ColumnName.{ColumnName}
use Rattle.sql_tree.specs.declared.schema.TableSchema.{TableSchema}
use Rattle.sql_tree.specs.declared.select.OrderKey.{OrderKey}
use Rattle.sql_tree.specs.declared.select.Output.{Output}
use Rattle.sql_tree.specs.declared.select.Select.{Select}
use Rattle.sql_tree.specs.declared.select.SelectList.{SelectList}
use Rattle.sql_tree.specs.declared.select.SelectList.TheVariants.{All, Outputs}
use Rattle.sql_tree.specs.declared.statement.Column.{Column}
use Rattle.sql_tree.specs.Select.{is_grouped}
use Rattle.sql_select.specs.Each.{each}
use Rattle.sql_select.specs.Groups.{distinct, groups}
use Rattle.sql_select.specs.Order.{sorted_by}
use Rattle.sql_select.specs.Outputs.{is_there_over_none, outputs_over}
use Rattle.sql_select.specs.Rows.{holds_at, joined_rows, kept}
use Rattle.sql_select.specs.declared.answer.Answer.{Answer}
use Rattle.sql_select.specs.declared.grouping.KeyedRow.{KeyedRow}
use Rattle.sql_select.specs.declared.ordering.KeyPlace.{KeyPlace}
use Rattle.sql_select.specs.declared.ordering.KeyPlace.TheVariants as place
use Rattle.sql_select.specs.declared.ordering.SortKey.{SortKey}
use Rattle.sql_select.specs.declared.output_row.OutputRow.{OutputRow}

-- a row beside its values in the columns of GROUP BY
abbrev pub keyed_row : List TableSchema → List ColumnName → List Value → Result KeyedRow Refusal
keyed_row scope columns row = do
  key ← each (column_value scope row) columns
  Ok (record { key = key; row = row })

-- the one group of a select without GROUP BY: all rows; of no rows only where each output has a value over none
abbrev pub single_group : List Output → List (List Value) → List (List (List Value))
single_group outputs [] = if list_all (λ (output : Output). is_there_over_none output.value) outputs then [] ∷ []
    else []
single_group outputs (row ∷ rows) = (row ∷ rows) ∷ []

abbrev pub groups_by : List TableSchema → List ColumnName → List Output → List (List Value) →
    Result (List (List (List Value))) Refusal
groups_by scope [] outputs rows = Ok (single_group outputs rows)
groups_by scope (column ∷ columns) outputs rows = do
  keyed ← each (keyed_row scope (column ∷ columns)) rows
  Ok (groups keyed)

-- the row of the answer that stands for a group
abbrev pub row_of_group : List TableSchema → Option ℕ → SelectList → List (List Value) → Result OutputRow Refusal
row_of_group scope snapshot list rows = do
  outputs ← outputs_over scope snapshot list rows
  Ok (record { outputs = outputs; origin = [] })

-- the row of the answer that stands for a row of the tables
abbrev pub row_of_row : List TableSchema → Option ℕ → SelectList → List Value → Result OutputRow Refusal
row_of_row scope snapshot list row = do
  outputs ← outputs_over scope snapshot list (row ∷ [])
  Ok (record { outputs = outputs; origin = row })

-- one row of the answer for each group; `*` is no output of a group
abbrev pub rows_of_groups : List TableSchema → Option ℕ → List ColumnName → SelectList → List (List Value) →
    Result (List OutputRow) Refusal
rows_of_groups scope snapshot columns All rows = Err WrongType
rows_of_groups scope snapshot columns (Outputs outputs) rows = do
  groups ← groups_by scope columns outputs rows
  each (row_of_group scope snapshot (Outputs outputs)) groups

-- the rows of the answer, before DISTINCT, ORDER BY and LIMIT
abbrev pub output_rows : List TableSchema → Option ℕ → Select → List (List Value) → Result (List OutputRow) Refusal
output_rows scope snapshot select rows =
    if is_grouped select then rows_of_groups scope snapshot select.group_by select.list rows
    else each (row_of_row scope snapshot select.list) rows

-- the output that a key names: the first of its name, where no table's name stands before it
abbrev pub output_place : List Column → Option (List ℕ) → List ℕ → Option ℕ
output_place columns None name = column_place name columns
output_place columns (Some table) name = None

-- an output, else a column of the tables, which serves only where each row of the answer stands for one of its rows
abbrev pub key_place : Bool → Option ℕ → Option ℕ → Result KeyPlace Refusal
key_place of_rows (Some output) column = Ok (place.Output output)
key_place true None (Some column) = Ok (place.Column column)
key_place true None None = Err UnknownName
key_place false None column = Err UnknownName

-- where the value of a key stands
abbrev pub sort_key : Select → List TableSchema → List Column → OrderKey → Result SortKey Refusal
sort_key select scope columns key = do
  place ← key_place (not (is_grouped select || select.distinct))
      (output_place columns key.column.table key.column.column) (place_of scope key.column)
  Ok (record { place = place; direction = key.direction })

-- LIMIT
abbrev pub limited : {X : Type 0} → Option ℕ → List X → List X
limited None xs = xs
limited (Some limit) xs = take limit xs

abbrev pub outputs_of : OutputRow → List Value
outputs_of row = row.outputs

-- DISTINCT, then ORDER BY, then LIMIT
abbrev pub finished : Select → List SortKey → List OutputRow → List (List Value)
finished select keys rows =
    map outputs_of (limited select.limit (sorted_by keys (if select.distinct then distinct rows else rows)))

-- the answer with these columns whose rows, before DISTINCT, ORDER BY and LIMIT, are these
abbrev pub answer_of : Select → List TableSchema → List Column → List OutputRow → Result Answer Refusal
answer_of select scope columns found = do
  keys ← each (sort_key select scope columns) select.order_by
  Ok (record { columns = columns; rows = finished select keys found })

-- the answer with these columns, over the rows of the first table and, where there is one, of the second
abbrev pub answer : Select → List TableSchema → List Column → Option ℕ → List (List Value) →
    Option (List (List Value)) → Result Answer Refusal
answer select scope columns snapshot firsts seconds = do
  rows ← kept (holds_at scope snapshot select.condition) (joined_rows firsts seconds)
  found ← output_rows scope snapshot select rows
  answer_of select scope columns found
