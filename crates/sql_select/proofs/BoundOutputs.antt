-- Outputs whose names are bound give what the outputs are defined to give.
use Rattle.std.proofs.Common.{◌≡◌, ◌∙◌, ◌<◌, ◌+◌, ℕ, Bool, true, false, Option, None, List, [], ◌∷◌, ◌++◌, Result, Ok, map, drop, get_or, length, refl, sym, ap, append_assoc, if◌then◌else◌}
use Rattle.std.proofs.lemmas.List.{map-append}
use Rattle.retro_base.specs.Gives.{◌>>=◌}
use Rattle.retro_base.specs.declared.refusal.Refusal.{Refusal}
use Rattle.values.specs.declared.value.Value.{Value}
use Rattle.sql_tree.specs.Evaluation.{column_value, value_of}
use Rattle.sql_tree.specs.Expression.{ExpressionTree}
use Rattle.sql_tree.specs.declared.name.ColumnName.{ColumnName}
use Rattle.sql_tree.specs.declared.schema.TableSchema.{TableSchema}
use Rattle.sql_tree.specs.declared.select.Aggregate.{Aggregate}
use Rattle.sql_tree.specs.declared.select.Aggregate.TheVariants.{Count as CountOf, Sum as SumOf, Min, Max}
use Rattle.sql_tree.specs.declared.select.Output.{Output}
use Rattle.sql_tree.specs.declared.select.OutputValue.TheVariants as value
use Rattle.sql_tree.specs.Select.{is_grouped}
use Rattle.sql_tree.specs.declared.select.Select.{Select}
use Rattle.sql_tree.specs.declared.select.SelectList.{SelectList}
use Rattle.sql_tree.specs.declared.select.SelectList.TheVariants as list
use Rattle.evaluation.specs.Bound.{column_source, value_at}
use Rattle.evaluation.specs.declared.expression.BoundExpression.{BoundExpression}
use Rattle.evaluation.specs.declared.source.Source.{Source}
use Rattle.evaluation.proofs.Binding.{column_source-value}
use Rattle.sql_select.specs.Bound.{aggregated, best_over, choice, counted_over, grouped_by, keyed_by, list_over, over, row_by, summed_over, values_at}
use Rattle.sql_select.specs.Each.{each}
use Rattle.sql_select.specs.Outputs.{aggregate_over, first_row, output_over, outputs_over}
use Rattle.sql_select.specs.Select.{keyed_row, output_rows, row_of_row, rows_of_groups}
use Rattle.sql_select.proofs.Eaches.{item_at}
use Rattle.sql_select.specs.declared.aggregates.Best.TheVariants.{Least, Greatest}
use Rattle.sql_select.specs.declared.outputs.BoundAggregate.{BoundAggregate}
use Rattle.sql_select.specs.declared.outputs.BoundAggregate.TheVariants.{Count, Sum, Extreme}
use Rattle.sql_select.specs.declared.outputs.BoundList.TheVariants.{Outputs}
use Rattle.sql_select.specs.declared.outputs.BoundOutput.{BoundOutput}
use Rattle.sql_select.specs.declared.outputs.BoundOutput.TheVariants.{Value as ValueOutput, Aggregate as AggregateOutput}

-- what an output is defined to give
abbrev pub means : List TableSchema → Option ℕ → Output → List (List Value) → Result Value Refusal
means scope n output rows = output_over scope n rows output.value

module _ (scope : List TableSchema) (n : Option ℕ) (bound : BoundExpression) (of : ExpressionTree) (is : value_at bound ≡ (λ row. value_of scope n row of)) where
  pub value-means : over (ValueOutput bound) ≡ (λ rows. output_over scope n rows (value.Expression of))
  value-means = λ i rows. is i (first_row rows)

  pub count-means : aggregated (Count bound) ≡ (λ rows. aggregate_over scope n rows (CountOf of))
  count-means = λ i rows. counted_over (is i) rows

  pub sum-means : aggregated (Sum bound) ≡ (λ rows. aggregate_over scope n rows (SumOf of))
  sum-means = λ i rows. summed_over (is i) rows

  pub least-means : aggregated (Extreme Least bound) ≡ (λ rows. aggregate_over scope n rows (Min of))
  least-means = λ i rows. best_over (choice Least) (is i) rows

  pub greatest-means : aggregated (Extreme Greatest bound) ≡ (λ rows. aggregate_over scope n rows (Max of))
  greatest-means = λ i rows. best_over (choice Greatest) (is i) rows

pub aggregate-means : (scope : List TableSchema) (n : Option ℕ) (bound : BoundAggregate) (of : Aggregate) → aggregated bound ≡ (λ rows. aggregate_over scope n rows of) → over (AggregateOutput bound) ≡ (λ rows. output_over scope n rows (value.Aggregate of))
aggregate-means scope n bound of is = λ i rows. is i rows

each-map : {X Y Z : Type 0} (g : Y → Result Z Refusal) (f : X → Y) (xs : List X) → each g (map f xs) ≡ each (λ x. g (f x)) xs
each-map g f [] = refl
each-map g f (x ∷ xs) = ap (λ r. g (f x) >>= (λ y. r >>= (λ ys. Ok (y ∷ ys)))) (each-map g f xs)

pub list-means : (scope : List TableSchema) (n : Option ℕ) (bounds : List BoundOutput) (outputs : List Output) → map over bounds ≡ map (means scope n) outputs
    → list_over (Outputs bounds) ≡ (λ rows. outputs_over scope n (list.Outputs outputs) rows)
list-means scope n bounds outputs e = λ i rows. (sym (each-map (λ (f : List (List Value) → Result Value Refusal). f rows) over bounds) ∙ ap (each (λ (f : List (List Value) → Result Value Refusal). f rows)) e ∙ each-map (λ (f : List (List Value) → Result Value Refusal). f rows) (means scope n) outputs) i

-- the values of columns at a row
values_at-row : (scope : List TableSchema) (row : List Value) (columns : List ColumnName) → values_at (map (column_source scope) columns) row ≡ each (column_value scope row) columns
values_at-row scope row [] = refl
values_at-row scope row (column ∷ columns) =
    ap (λ r. r >>= (λ y. values_at (map (column_source scope) columns) row >>= (λ ys. Ok (y ∷ ys)))) (column_source-value scope None row column)
    ∙ ap (λ r. column_value scope row column >>= (λ y. r >>= (λ ys. Ok (y ∷ ys)))) (values_at-row scope row columns)

values_at-is : (scope : List TableSchema) (sources : List Source) (columns : List ColumnName) → sources ≡ map (column_source scope) columns → values_at sources ≡ (λ row. each (column_value scope row) columns)
values_at-is scope sources columns e = λ i row. (ap (λ s. values_at s row) e ∙ values_at-row scope row columns) i

grouped-is : (scope : List TableSchema) (n : Option ℕ) (columns : List ColumnName) (of : SelectList) (gives : List (List Value) → Result (List Value) Refusal) (rows : List (List Value)) → gives ≡ (λ rows. outputs_over scope n of rows) → grouped_by scope columns of gives rows ≡ rows_of_groups scope n columns of rows
grouped-is scope n columns of gives rows e = ap (λ (g : List (List Value) → Result (List Value) Refusal). grouped_by scope columns of g rows) e ∙ by_list of
  where
    by_list : (of : SelectList) → grouped_by scope columns of (λ rows. outputs_over scope n of rows) rows ≡ rows_of_groups scope n columns of rows
    by_list list.All = refl
    by_list (list.Outputs outputs) = refl

rows-is : (scope : List TableSchema) (n : Option ℕ) (of : SelectList) (gives : List (List Value) → Result (List Value) Refusal) (rows : List (List Value)) → gives ≡ (λ rows. outputs_over scope n of rows) → each (row_by gives) rows ≡ each (row_of_row scope n of) rows
rows-is scope n of gives rows e = ap (λ (g : List (List Value) → Result (List Value) Refusal). each (row_by g) rows) e

pub keyed-is : (scope : List TableSchema) (sources : List Source) (columns : List ColumnName) (rows : List (List Value)) → sources ≡ map (column_source scope) columns → each (keyed_by (values_at sources)) rows ≡ each (keyed_row scope columns) rows
keyed-is scope sources columns rows e = ap (λ (g : List Value → Result (List Value) Refusal). each (keyed_by g) rows) (values_at-is scope sources columns e)

-- an output more
pub more_means : (scope : List TableSchema) (n : Option ℕ) (bounds : List BoundOutput) (bound : BoundOutput) (outputs : List Output) (i : ℕ) (output : Output) → i < length outputs → output ≡ get_or outputs i output → over bound ≡ means scope n output
    → map over bounds ++ map (means scope n) (drop i outputs) ≡ map (means scope n) outputs → map over (bounds ++ bound ∷ []) ++ map (means scope n) (drop (i + 1) outputs) ≡ map (means scope n) outputs
more_means scope n bounds bound outputs i output lt is e so_far =
    let rest = map (means scope n) (drop (i + 1) outputs) in
    ap (λ (l : List (List (List Value) → Result Value Refusal)). l ++ rest) (map-append over bounds (bound ∷ []))
    ∙ append_assoc (map over bounds) (over bound ∷ []) rest
    ∙ ap (λ (f : List (List Value) → Result Value Refusal). map over bounds ++ f ∷ rest) e
    ∙ ap (λ (l : List Output). map over bounds ++ map (means scope n) l) (sym (item_at outputs i output lt is))
    ∙ so_far

pub if_true : {X : Type 0} (b : Bool) (x y : X) → b ≡ true → (if b then x else y) ≡ x
if_true true x y e = refl
if_true false x y e = cc

if_false : {X : Type 0} (b : Bool) (x y : X) → b ≡ false → (if b then x else y) ≡ y
if_false true x y e = cc
if_false false x y e = refl

module _ (scope : List TableSchema) (n : Option ℕ) (select : Select) (gives : List (List Value) → Result (List Value) Refusal) (rows : List (List Value)) (e : gives ≡ (λ rows. outputs_over scope n select.list rows)) where
  pub of_groups : is_grouped select ≡ true → grouped_by scope select.group_by select.list gives rows ≡ output_rows scope n select rows
  of_groups g =
      grouped-is scope n select.group_by select.list gives rows e
      ∙ sym (if_true (is_grouped select) (rows_of_groups scope n select.group_by select.list rows) (each (row_of_row scope n select.list) rows) g)

  pub of_rows : is_grouped select ≡ false → each (row_by gives) rows ≡ output_rows scope n select rows
  of_rows g =
      rows-is scope n select.list gives rows e
      ∙ sym (if_false (is_grouped select) (rows_of_groups scope n select.group_by select.list rows) (each (row_of_row scope n select.list) rows) g)
