-- The rows of all answers, grouped, and one row of each group.
use Rattle.std.specs.Prelude.{ℕ, List, [], ◌∷◌, map, slice_get, Option, Some}
use Rattle.std.specs.Prelude.{None, Result, Ok, Err, ◌||◌, if◌then◌else◌}
use Rattle.std.specs.List.{enumerate_from, filter_map, list_any}
use Rattle.retro_base.specs.Gives.{◌>>=◌}
use Rattle.retro_base.specs.declared.refusal.Refusal.{Refusal}
use Rattle.retro_base.specs.declared.refusal.Refusal.TheVariants.{NameTaken, UnknownName, WrongType}
use Rattle.values.specs.declared.value.Kind.{Kind}
use Rattle.values.specs.declared.value.Kind.TheVariants as kind
use Rattle.values.specs.declared.value.Value.{Value}
use Rattle.sql_check.specs.Names.{has_twins}
use Rattle.sql_tree.specs.declared.statement.Column.{Column}
use Rattle.sql_select.specs.Each.{each}
use Rattle.sql_select.specs.Groups.{groups}
use Rattle.sql_select.specs.Outputs.{first_row}
use Rattle.sql_select.specs.declared.answer.Answer.{Answer}
use Rattle.sql_select.specs.declared.grouping.KeyedRow.{KeyedRow}
use Rattle.rql.specs.Aggregates.{aggregate}
use Rattle.rql.specs.Collate.{joined}
use Rattle.rql.specs.Columns.{name_of}
use Rattle.rql.specs.Gathering.{Take, gathered}
use Rattle.rql.specs.Pairs.{column_name, function_of, names_unknown, sums_texts}
use Rattle.rql.specs.declared.function.Function.{Function}
use Rattle.rql.specs.declared.function.Function.TheVariants.{Count}
use Rattle.rql.specs.declared.pair.Pair.{Pair}

-- the rows of an answer to whose columns the pairs apply
abbrev pub paired_rows : List Pair → Take (List (List Value))
paired_rows pairs snapshot columns rows =
    if names_unknown pairs columns then Err UnknownName
    else if has_twins column_name pairs || has_twins name_of columns then Err NameTaken
    else if list_any (sums_texts pairs) columns then Err WrongType
    else Ok rows

-- the key of a row: its values in the columns without a function
abbrev pub key_of : List (Option Function) → List Value → List Value
key_of (None ∷ functions) (value ∷ row) = value ∷ key_of functions row
key_of (Some function ∷ functions) (value ∷ row) = key_of functions row
key_of functions row = []

-- a row beside its key
abbrev pub keyed_row : List (Option Function) → List Value → KeyedRow
keyed_row functions row = record { key = key_of functions row; row = row }

-- the values of rows in the column at a place
abbrev pub values_at : ℕ → List (List Value) → List Value
values_at place rows = filter_map (λ row. slice_get row place) rows

-- the value of a group in a column: without a function that of its first row, else the values of its rows in one
abbrev pub value_in : List (List Value) → ℕ × Option Function → Result (Option Value) Refusal
value_in rows (place, None) = Ok (slice_get (first_row rows) place)
value_in rows (place, Some function) = aggregate function (values_at place rows)

-- the row that stands for a group: its values in the columns
abbrev pub row_of_group : List (Option Function) → List (List Value) → Result (List Value) Refusal
row_of_group functions rows = do
  values ← each (value_in rows) (enumerate_from 0 functions)
  Ok (filter_map (λ value. value) values)

-- one row for each group of rows with the same key, in order of first appearance
abbrev pub table_rows : List (Option Function) → List (List Value) → Result (List (List Value)) Refusal
table_rows functions rows = each (row_of_group functions) (groups (map (keyed_row functions) rows))

-- COUNT gives numbers, and the other functions values of the column's kind
abbrev pub kind_in : Option Function → Kind → Kind
kind_in (Some Count) own = kind.Int
kind_in function own = own

-- the column of the table that stands for a column of the answers
abbrev pub column_in : List Pair → Column → Column
column_in pairs column = record { name = column.name; kind = kind_in (function_of pairs column) column.kind }

-- the rows of all answers, one behind the other, and one row for each group of them
abbrev pub in_table : List Pair → (ℕ → Result Answer Refusal) → List ℕ → Result Answer Refusal
in_table pairs answers snapshots = do
  found ← gathered (paired_rows pairs) answers snapshots
  rows ← table_rows (map (function_of pairs) found.0) (joined found.1)
  Ok (record { columns = map (column_in pairs) found.0; rows = rows })
