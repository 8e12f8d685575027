-- The outputs of a select over the rows of a group.
use Rattle.std.specs.Prelude.{ℕ, Bool, true, false, List, [], ◌∷◌, Option, Result, Ok}
use Rattle.retro_base.specs.Gives.{◌>>=◌}
use Rattle.retro_base.specs.declared.refusal.Refusal.{Refusal}
use Rattle.values.specs.declared.value.Value.{Value}
use Rattle.sql_tree.specs.Evaluation.{value_of}
use Rattle.sql_tree.specs.Expression.{ExpressionTree, is_constant}
use Rattle.sql_tree.specs.declared.schema.TableSchema.{TableSchema}
use Rattle.sql_tree.specs.declared.select.Aggregate.{Aggregate}
use Rattle.sql_tree.specs.declared.select.Aggregate.TheVariants.{CountRows, Count, Sum, Min, Max}
use Rattle.sql_tree.specs.declared.select.Output.{Output}
use Rattle.sql_tree.specs.declared.select.OutputValue.{OutputValue}
use Rattle.sql_tree.specs.declared.select.OutputValue.TheVariants as value
use Rattle.sql_tree.specs.declared.select.SelectList.{SelectList}
use Rattle.sql_tree.specs.declared.select.SelectList.TheVariants.{All, Outputs}
use Rattle.sql_select.specs.Aggregates.{count_of, sum_of, least_of, greatest_of}
use Rattle.sql_select.specs.Each.{each}

-- the values of an expression at the rows of a group
abbrev pub values_over : List TableSchema → Option ℕ → List (List Value) → ExpressionTree → Result (List Value) Refusal
values_over scope snapshot rows expression = each (λ (row : List Value). value_of scope snapshot row expression) rows

abbrev pub aggregate_over : List TableSchema → Option ℕ → List (List Value) → Aggregate → Result Value Refusal
aggregate_over scope snapshot rows CountRows = count_of rows
aggregate_over scope snapshot rows (Count expression) = do
  values ← values_over scope snapshot rows expression
  count_of values
aggregate_over scope snapshot rows (Sum expression) = do
  values ← values_over scope snapshot rows expression
  sum_of values
aggregate_over scope snapshot rows (Min expression) = do
  values ← values_over scope snapshot rows expression
  least_of values
aggregate_over scope snapshot rows (Max expression) = do
  values ← values_over scope snapshot rows expression
  greatest_of values

abbrev pub first_row : List (List Value) → List Value
first_row [] = []
first_row (row ∷ rows) = row

-- an output that is no aggregate has its value at the group's first row
abbrev pub output_over : List TableSchema → Option ℕ → List (List Value) → OutputValue → Result Value Refusal
output_over scope snapshot rows (value.Expression expression) = value_of scope snapshot (first_row rows) expression
output_over scope snapshot rows (value.Aggregate aggregate) = aggregate_over scope snapshot rows aggregate

-- the outputs over the rows of a group; `*` gives all columns of the first
abbrev pub outputs_over : List TableSchema → Option ℕ → SelectList → List (List Value) → Result (List Value) Refusal
outputs_over scope snapshot All rows = Ok (first_row rows)
outputs_over scope snapshot (Outputs outputs) rows =
    each (λ (output : Output). output_over scope snapshot rows output.value) outputs

-- whether an output has a value over no rows
abbrev pub is_there_over_none : OutputValue → Bool
is_there_over_none (value.Expression expression) = is_constant expression
is_there_over_none (value.Aggregate CountRows) = true
is_there_over_none (value.Aggregate (Count expression)) = true
is_there_over_none (value.Aggregate (Sum expression)) = true
is_there_over_none (value.Aggregate (Min expression)) = false
is_there_over_none (value.Aggregate (Max expression)) = false
