-- The aggregates of a select over one table without GROUP BY, worked out while its rows are read.
use Rattle.std.specs.Prelude.{◌≡◌, ◌==◌, ◌+◌, ◌+ℤ◌, ◌^◌, ◌&&◌, ◌||◌, ℕ, ℤ, pos, negsuc, nat_lt, Bool, true, false}
use Rattle.std.specs.Prelude.{⊤, not, is_none, List, [], ◌∷◌, fold, length, map, IsOk, Option, Some, None, Result, Ok}
use Rattle.std.specs.Prelude.{Err, if◌then◌else◌}
use Rattle.std.specs.List.{AllByRecursion, list_all}
use Rattle.std.specs.Option.{ok_or}
use Rattle.retro_base.specs.Gives.{◌>>=◌}
use Rattle.retro_base.specs.declared.refusal.Refusal.{Refusal}
use Rattle.retro_base.specs.declared.refusal.Refusal.TheVariants.{Overflow, WrongType}
use Rattle.values.specs.declared.value.Value.{Value}
use Rattle.sql_tree.specs.declared.schema.TableSchema.{TableSchema}
use Rattle.sql_tree.specs.declared.select.Output.{Output}
use Rattle.sql_tree.specs.declared.select.Select.{Select}
use Rattle.sql_tree.specs.Select.{is_aggregate, is_grouped, outputs_of}
use Rattle.evaluation.specs.Bound.{value_at}
use Rattle.sql_select.specs.Aggregates.{number_of, total, whole}
use Rattle.sql_select.specs.Bound.{better, choice, keeps, list_over}
use Rattle.sql_select.specs.Each.{each}
use Rattle.sql_select.specs.Outputs.{is_there_over_none, outputs_over}
use Rattle.sql_select.specs.Rows.{holds_at, kept}
use Rattle.sql_select.specs.declared.output_row.OutputRow.{OutputRow}
use Rattle.sql_select.specs.declared.outputs.BoundAggregate.TheVariants as bound
use Rattle.sql_select.specs.declared.outputs.BoundList.TheVariants.{Outputs}
use Rattle.sql_select.specs.declared.outputs.BoundOutput.{BoundOutput}
use Rattle.sql_select.specs.declared.outputs.BoundOutput.TheVariants.{Aggregate}
use Rattle.sql_totals.specs.declared.totals.Total.{Total}
use Rattle.sql_totals.specs.declared.totals.Total.TheVariants.{CountRows, Count, Sum, Extreme}
use Rattle.sql_totals.specs.declared.totals.Totals.{Totals}

-- the output that a total is of
abbrev pub output_of : Total → BoundOutput
output_of CountRows = Aggregate bound.CountRows
output_of (Count expression) = Aggregate (bound.Count expression)
output_of (Sum so_far) = Aggregate (bound.Sum so_far.of)
output_of (Extreme which expression best) = Aggregate (bound.Extreme which expression)

-- the best of some values; none of no values
abbrev pub best_so_far : (Value → Value → Value) → List Value → Option Value
best_so_far choose [] = None
best_so_far choose (value ∷ values) = Some (fold choose value values)

-- the whole sum of the numbers at some rows, and the best of the values, by what gives a value at each
abbrev pub summed : (List Value → Result Value Refusal) → List (List Value) → Result ℤ Refusal
summed at rows = do
  values ← each at rows
  numbers ← each number_of values
  Ok (total numbers)

abbrev pub best_at : (Value → Value → Value) → (List Value → Result Value Refusal) → List (List Value) →
    Result (Option Value) Refusal
best_at choose at rows = do
  values ← each at rows
  Ok (best_so_far choose values)

-- a total is that over these rows, at none of which its expression is refused
abbrev pub IsOver : List (List Value) → Total → Type 0
IsOver rows CountRows = ⊤
IsOver rows (Count expression) = IsOk (each (value_at expression) rows)
IsOver rows (Sum so_far) = summed (value_at so_far.of) rows ≡ Ok so_far.sum
IsOver rows (Extreme which expression best) = best_at (choice which) (value_at expression) rows ≡ Ok best

-- a number that an i128 holds, and a count that a usize holds
abbrev pub is_i128 : ℤ → Bool
is_i128 (pos n) = nat_lt n (2 ^ 127)
is_i128 (negsuc n) = nat_lt n (2 ^ 127)

abbrev pub wide : ℤ → Option ℤ
wide z = if is_i128 z then Some z else None

abbrev pub counted : ℕ → Option ℕ
counted n = if nat_lt n (2 ^ 64) then Some n else None

-- a sum, and the best so far, with a row more
abbrev pub added : (List Value → Result Value Refusal) → ℤ → List Value → Result ℤ Refusal
added at sum row = do
  value ← at row
  number ← number_of value
  ok_or (wide (sum +ℤ number)) Overflow

abbrev pub best_with : (Value → Value → Value) → (List Value → Result Value Refusal) → Option Value → List Value →
    Result Value Refusal
best_with choose at best row = do
  value ← at row
  Ok (better choose best value)

-- a total with a row more
abbrev pub with_row : List Value → Total → Result Total Refusal
with_row row CountRows = Ok CountRows
with_row row (Count expression) = do
  value ← value_at expression row
  Ok (Count expression)
with_row row (Sum so_far) = do
  after ← added (value_at so_far.of) so_far.sum row
  Ok (Sum (record { of = so_far.of; sum = after }))
with_row row (Extreme which expression best) = do
  after ← best_with (choice which) (value_at expression) best row
  Ok (Extreme which expression (Some after))

-- the totals of a select, and how many rows they are over
abbrev pub tally : Totals → ℕ × List Total
tally totals = (totals.rows, totals.totals.items)

-- the same with a row more that WHERE keeps, and with one that it may keep
abbrev pub tally_with_kept : List Value → Totals → Result (ℕ × List Total) Refusal
tally_with_kept row totals = do
  rows ← ok_or (counted (totals.rows + 1)) Overflow
  after ← each (with_row row) totals.totals.items
  Ok (rows, after)

abbrev pub tally_with : List Value → Totals → Result (ℕ × List Total) Refusal
tally_with row totals = do
  is_kept ← keeps totals.filter row
  if is_kept then tally_with_kept row totals else Ok (tally totals)

-- what a total gives after so many rows
abbrev pub value_after : ℕ → Total → Result Value Refusal
value_after rows CountRows = whole (pos rows)
value_after rows (Count expression) = whole (pos rows)
value_after rows (Sum so_far) = whole so_far.sum
value_after rows (Extreme which expression None) = Err WrongType
value_after rows (Extreme which expression (Some best)) = Ok best

-- the rows of the answer behind these outputs, if there is one
abbrev pub rows_if : Bool → Result (List Value) Refusal → Result (List OutputRow) Refusal
rows_if false outputs = Ok []
rows_if true outputs = do
  outputs ← outputs
  Ok (record { outputs = outputs; origin = [] } ∷ [])

-- the rows of the answer after so many rows: one; of no row only where each output has a value over none
abbrev pub rows_after : List Output → ℕ → List Total → Result (List OutputRow) Refusal
rows_after outputs rows totals =
    rows_if (not (rows == 0) || list_all (λ (output : Output). is_there_over_none output.value) outputs)
    (each (value_after rows) totals)

-- whether a select is over one table, and gives one row for all of its rows
abbrev pub is_of_one_group : Select → Bool
is_of_one_group select = is_none select.second && (length select.group_by == 0) && is_grouped select

-- whether such a select can be added up while its rows are read: each of its outputs is an aggregate
abbrev pub is_summable : Select → Bool
is_summable select =
    is_of_one_group select && list_all (λ (output : Output). is_aggregate output.value) (outputs_of select.list)

-- these are the totals of the outputs of a select over its rows so far, none of which is refused
pub record AreOf (select : Select) (scope : List TableSchema) (snapshot : Option ℕ) (rows : List (List Value))
    (totals : Totals) : Type 0 where
  pub one_group : is_of_one_group select ≡ true
  pub filter : keeps totals.filter ≡ holds_at scope snapshot select.condition
  pub outputs : list_over (Outputs (map output_of totals.totals.items))
      ≡ (λ rows. outputs_over scope snapshot select.list rows)
  pub kept_rows : List (List Value)
  pub kept : kept (holds_at scope snapshot select.condition) rows ≡ Ok kept_rows
  pub count : totals.rows ≡ length kept_rows
  pub over : AllByRecursion (IsOver kept_rows) totals.totals.items
