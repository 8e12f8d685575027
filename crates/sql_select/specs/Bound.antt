-- What is bound once for a select, and what it gives at rows. No promise above cites more of it than `keeps`.
use Rattle.std.specs.Prelude.{◌+ℤ◌, ℤ, Bool, true, false, List, [], ◌∷◌, fold, Option, Some, None, Result, Ok, Err}
use Rattle.std.specs.Ordering.{ord_max, ord_min}
use Rattle.retro_base.specs.Gives.{◌>>=◌}
use Rattle.retro_base.specs.declared.refusal.Refusal.{Refusal}
use Rattle.retro_base.specs.declared.refusal.Refusal.TheVariants.{WrongType}
use Rattle.values.specs.Value.{value_cmp}
use Rattle.values.specs.declared.value.Value.{Value}
use Rattle.sql_tree.specs.declared.name.ColumnName.{ColumnName}
use Rattle.sql_tree.specs.declared.schema.TableSchema.{TableSchema}
use Rattle.sql_tree.specs.declared.select.SelectList.{SelectList}
use Rattle.sql_tree.specs.declared.select.SelectList.TheVariants as list
use Rattle.evaluation.specs.Bound.{source_value, truth_at, value_at}
use Rattle.evaluation.specs.declared.condition.BoundCondition.{BoundCondition}
use Rattle.evaluation.specs.declared.source.Source.{Source}
use Rattle.sql_select.specs.Aggregates.{best_of, count_of, number_of, sum_of, total, whole}
use Rattle.sql_select.specs.Each.{each}
use Rattle.sql_select.specs.Outputs.{first_row}
use Rattle.sql_select.specs.declared.aggregates.Best.{Best}
use Rattle.sql_select.specs.declared.aggregates.Best.TheVariants.{Least, Greatest}
use Rattle.sql_select.specs.declared.filter.Filter.{Filter}
use Rattle.sql_select.specs.declared.grouping.KeyedRow.{KeyedRow}
use Rattle.sql_select.specs.declared.output_row.OutputRow.{OutputRow}
use Rattle.sql_select.specs.Select.{groups_by}
use Rattle.sql_select.specs.declared.outputs.BoundAggregate.{BoundAggregate}
use Rattle.sql_select.specs.declared.outputs.BoundAggregate.TheVariants.{CountRows, Count, Sum, Extreme}
use Rattle.sql_select.specs.declared.outputs.BoundList.{BoundList}
use Rattle.sql_select.specs.declared.outputs.BoundList.TheVariants.{All, Outputs}
use Rattle.sql_select.specs.declared.outputs.BoundOutput.{BoundOutput}
use Rattle.sql_select.specs.declared.outputs.BoundOutput.TheVariants.{Value as ValueOutput, Aggregate}

-- whether a row is kept
abbrev pub keeps_by : Option BoundCondition → List Value → Result Bool Refusal
keeps_by None row = Ok true
keeps_by (Some condition) row = truth_at condition row

abbrev pub keeps : Filter → List Value → Result Bool Refusal
keeps filter row = keeps_by filter.condition row

-- aggregates over the rows of a group, by what gives a value at each
abbrev pub counted_over : (List Value → Result Value Refusal) → List (List Value) → Result Value Refusal
counted_over at rows = do
  values ← each at rows
  count_of values

abbrev pub summed_over : (List Value → Result Value Refusal) → List (List Value) → Result Value Refusal
summed_over at rows = do
  values ← each at rows
  sum_of values

abbrev pub best_over : (Value → Value → Value) → (List Value → Result Value Refusal) → List (List Value) →
    Result Value Refusal
best_over choose at rows = do
  values ← each at rows
  best_of choose values

-- the sum of the values behind a sum so far, unless a text was met
abbrev pub sum_from : Bool → ℤ → List Value → Result Value Refusal
sum_from true sum values = Err WrongType
sum_from false sum values = do
  numbers ← each number_of values
  whole (sum +ℤ total numbers)

-- the best of the values behind the best so far
abbrev pub best_from : (Value → Value → Value) → Option Value → List Value → Result Value Refusal
best_from choose None values = best_of choose values
best_from choose (Some best) values = Ok (fold choose best values)

abbrev pub better : (Value → Value → Value) → Option Value → Value → Value
better choose None value = value
better choose (Some best) value = choose best value

abbrev pub choice : Best → Value → Value → Value
choice Least = ord_min value_cmp
choice Greatest = ord_max value_cmp

-- an aggregate over the rows of a group
abbrev pub aggregated : BoundAggregate → List (List Value) → Result Value Refusal
aggregated CountRows rows = count_of rows
aggregated (Count expression) rows = counted_over (value_at expression) rows
aggregated (Sum expression) rows = summed_over (value_at expression) rows
aggregated (Extreme best expression) rows = best_over (choice best) (value_at expression) rows

-- an output over the rows of a group
abbrev pub over : BoundOutput → List (List Value) → Result Value Refusal
over (ValueOutput expression) rows = value_at expression (first_row rows)
over (Aggregate aggregate) rows = aggregated aggregate rows

abbrev pub list_over : BoundList → List (List Value) → Result (List Value) Refusal
list_over All rows = Ok (first_row rows)
list_over (Outputs outputs) rows = each (λ output. over output rows) outputs

-- the values at a row of columns
abbrev pub values_at : List Source → List Value → Result (List Value) Refusal
values_at sources row = each (λ source. source_value source row) sources

-- rows of the answer, groups and keys, by what gives the outputs over rows and the key of a row
abbrev pub row_by : (List (List Value) → Result (List Value) Refusal) → List Value → Result OutputRow Refusal
row_by gives row = do
  outputs ← gives (row ∷ [])
  Ok (record { outputs = outputs; origin = row })

abbrev pub row_by_group : (List (List Value) → Result (List Value) Refusal) → List (List Value) →
    Result OutputRow Refusal
row_by_group gives rows = do
  outputs ← gives rows
  Ok (record { outputs = outputs; origin = [] })

abbrev pub grouped_by : List TableSchema → List ColumnName → SelectList →
    (List (List Value) → Result (List Value) Refusal) → List (List Value) → Result (List OutputRow) Refusal
grouped_by scope columns list.All gives rows = Err WrongType
grouped_by scope columns (list.Outputs outputs) gives rows = do
  groups ← groups_by scope columns outputs rows
  each (row_by_group gives) groups

abbrev pub keyed_by : (List Value → Result (List Value) Refusal) → List Value → Result KeyedRow Refusal
keyed_by key_at row = do
  key ← key_at row
  Ok (record { key = key; row = row })
