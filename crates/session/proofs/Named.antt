-- Which refusals statements have: none of a store's pages, and never want of memory.
use Rattle.std.specs.Prelude.{pos}
use Rattle.std.specs.Ordering.{ord_max, ord_min}
use Rattle.values.specs.Value.{value_cmp}
use Rattle.std.proofs.Common.{◌&&◌, ◌||◌, ℕ, ℤ, Bool, true, false, cond, not, List, [], ◌∷◌, length, Option, Some, None, Result, Ok, Err}
use Rattle.retro_base.specs.Gives.{◌>>=◌}
use Rattle.retro_base.specs.declared.refusal.Refusal.{Refusal}
use Rattle.retro_base.specs.declared.refusal.Refusal.TheVariants as refusal
use Rattle.values.specs.declared.value.Value.{Value}
use Rattle.values.specs.declared.value.Value.TheVariants.{Int, Text}
use Rattle.sql_tree.specs.Condition.{ConditionTree, Compare, Not, And, Or}
use Rattle.sql_tree.specs.Evaluation as at
use Rattle.sql_tree.specs.Scope.{place_of}
use Rattle.sql_tree.specs.Expression.{ExpressionTree, Literal, Column, CurrentSnapshot, Apply}
use Rattle.sql_tree.specs.declared.condition.Comparison.{Comparison}
use Rattle.sql_tree.specs.declared.condition.Operand.{Operand}
use Rattle.sql_tree.specs.declared.condition.Operand.TheVariants as operand
use Rattle.sql_tree.specs.declared.expression.Operator.{Operator}
use Rattle.sql_tree.specs.declared.name.ColumnName.{ColumnName}
use Rattle.sql_tree.specs.declared.schema.TableSchema.{TableSchema}
use Rattle.sql_tree.specs.declared.select.Aggregate.{Aggregate}
use Rattle.sql_tree.specs.declared.select.Aggregate.TheVariants.{CountRows, Count, Sum, Min, Max}
use Rattle.sql_tree.specs.declared.select.OrderKey.{OrderKey}
use Rattle.sql_tree.specs.declared.select.Output.{Output}
use Rattle.sql_tree.specs.declared.select.OutputValue.{OutputValue}
use Rattle.sql_tree.specs.declared.select.OutputValue.TheVariants as value
use Rattle.sql_tree.specs.declared.select.Select.{Select}
use Rattle.sql_tree.specs.declared.select.SelectList.{SelectList}
use Rattle.sql_tree.specs.declared.select.SelectList.TheVariants.{All, Outputs}
use Rattle.sql_tree.specs.declared.statement.Column.{Column as TableColumn}
use Rattle.sql_tree.specs.Select.{is_grouped}
use Rattle.sql_select.specs.Aggregates.{best_of, count_of, number_of, sum_of, total, whole}
use Rattle.sql_select.specs.Each.{each}
use Rattle.sql_select.specs.Groups.{groups}
use Rattle.sql_select.specs.Outputs.{aggregate_over, output_over, outputs_over, values_over}
use Rattle.sql_select.specs.Rows.{holds_at, joined_rows, kept}
use Rattle.sql_select.specs.Select.{answer, groups_by, key_place, keyed_row, output_place, output_rows, row_of_group, row_of_row, rows_of_groups, sort_key}
use Rattle.sql_select.specs.declared.grouping.KeyedRow.{KeyedRow}
use Rattle.sql_select.specs.declared.ordering.KeyPlace.{KeyPlace}

-- a refusal of a statement by its meaning
abbrev pub IsOfMeaning : Refusal → Type 0
IsOfMeaning refusal.UnknownName = Unit {0}
IsOfMeaning refusal.NameTaken = Unit {0}
IsOfMeaning refusal.WrongType = Unit {0}
IsOfMeaning refusal.Overflow = Unit {0}
IsOfMeaning (refusal.RowTooLong bytes) = Unit {0}
IsOfMeaning why = ⊥

-- an answer, or such a refusal
abbrev pub Means : {X : Type 0} → Result X Refusal → Type 0
Means (Ok x) = Unit {0}
Means (Err why) = IsOfMeaning why

pub then_means : {A B : Type 0} (r : Result A Refusal) (f : A → Result B Refusal) → Means r → ((x : A) → Means (f x)) → Means (r >>= f)
then_means (Ok x) f is next = next x
then_means (Err why) f is next = is

pub if_means : {A : Type 0} (b : Bool) (one other : Result A Refusal) → Means one → Means other → Means (cond b one other)
if_means true one other is also = is
if_means false one other is also = also

each_means : {X Y : Type 0} (f : X → Result Y Refusal) (xs : List X) → ((x : X) → Means (f x)) → Means (each f xs)
each_means f [] is = tt
each_means f (x ∷ xs) is = then_means (f x) (λ y. each f xs >>= (λ ys. Ok (y ∷ ys))) (is x) (λ y. then_means (each f xs) (λ ys. Ok (y ∷ ys)) (each_means f xs is) (λ ys. tt))

known_value : (o : Option Value) → Means (at.found_value o)
known_value None = tt
known_value (Some value) = tt

in_range_means : (z : Option ℤ) → Means (at.in_range z)
in_range_means None = tt
in_range_means (Some z) = tt

snapshot_means : (snapshot : Option ℕ) → Means (at.snapshot_value snapshot)
snapshot_means None = tt
snapshot_means (Some number) = tt

applied_means : (operator : Operator) (a b : Value) → Means (at.applied operator a b)
applied_means operator (Int m) (Int n) = in_range_means (at.narrow (at.result_of operator m n))
applied_means operator (Int m) (Text t) = tt
applied_means operator (Text s) (Int n) = tt
applied_means operator (Text s) (Text t) = tt

pub value_means : (scope : List TableSchema) (snapshot : Option ℕ) (row : List Value) (e : ExpressionTree) → Means (at.value_of scope snapshot row e)
value_means scope snapshot row (Literal value) = tt
value_means scope snapshot row (Column name) = known_value (at.value_at row (place_of scope name))
value_means scope snapshot row CurrentSnapshot = snapshot_means snapshot
value_means scope snapshot row (Apply operator left right) =
    then_means (at.value_of scope snapshot row left) (λ a. at.value_of scope snapshot row right >>= (λ b. at.applied operator a b)) (value_means scope snapshot row left)
    (λ a. then_means (at.value_of scope snapshot row right) (λ b. at.applied operator a b) (value_means scope snapshot row right) (λ b. applied_means operator a b))

operand_means : (scope : List TableSchema) (snapshot : Option ℕ) (row : List Value) (o : Operand) → Means (at.operand_value scope snapshot row o)
operand_means scope snapshot row (operand.Literal value) = tt
operand_means scope snapshot row (operand.Column name) = known_value (at.value_at row (place_of scope name))
operand_means scope snapshot row operand.CurrentSnapshot = snapshot_means snapshot

compared_means : (comparison : Comparison) (a b : Value) → Means (at.compared comparison a b)
compared_means comparison (Int m) (Int n) = tt
compared_means comparison (Int m) (Text t) = tt
compared_means comparison (Text s) (Int n) = tt
compared_means comparison (Text s) (Text t) = tt

condition_means : (scope : List TableSchema) (snapshot : Option ℕ) (row : List Value) (c : ConditionTree) → Means (at.is_true scope snapshot row c)
condition_means scope snapshot row (Compare left comparison right) =
    then_means (at.operand_value scope snapshot row left) (λ a. at.operand_value scope snapshot row right >>= (λ b. at.compared comparison a b)) (operand_means scope snapshot row left)
    (λ a. then_means (at.operand_value scope snapshot row right) (λ b. at.compared comparison a b) (operand_means scope snapshot row right) (λ b. compared_means comparison a b))
condition_means scope snapshot row (Not c) = then_means (at.is_true scope snapshot row c) (λ a. Ok (not a)) (condition_means scope snapshot row c) (λ a. tt)
condition_means scope snapshot row (And left right) =
    then_means (at.is_true scope snapshot row left) (λ a. at.is_true scope snapshot row right >>= (λ b. Ok (a && b))) (condition_means scope snapshot row left)
    (λ a. then_means (at.is_true scope snapshot row right) (λ b. Ok (a && b)) (condition_means scope snapshot row right) (λ b. tt))
condition_means scope snapshot row (Or left right) =
    then_means (at.is_true scope snapshot row left) (λ a. at.is_true scope snapshot row right >>= (λ b. Ok (a || b))) (condition_means scope snapshot row left)
    (λ a. then_means (at.is_true scope snapshot row right) (λ b. Ok (a || b)) (condition_means scope snapshot row right) (λ b. tt))

pub holds_means : (scope : List TableSchema) (snapshot : Option ℕ) (condition : Option ConditionTree) (row : List Value) → Means (holds_at scope snapshot condition row)
holds_means scope snapshot None row = tt
holds_means scope snapshot (Some condition) row = condition_means scope snapshot row condition

kept_means : (holds : List Value → Result Bool Refusal) (rows : List (List Value)) → ((row : List Value) → Means (holds row)) → Means (kept holds rows)
kept_means holds [] is = tt
kept_means holds (row ∷ rows) is =
    then_means (holds row) (λ keeps. kept holds rows >>= (λ others. Ok (cond keeps (row ∷ others) others))) (is row)
    (λ keeps. then_means (kept holds rows) (λ others. Ok (cond keeps (row ∷ others) others)) (kept_means holds rows is) (λ others. tt))

number_means : (v : Value) → Means (number_of v)
number_means (Int n) = tt
number_means (Text t) = tt

whole_means : (z : ℤ) → Means (whole z)
whole_means z = in_range_means (at.narrow z)

best_means : (better : Value → Value → Value) (values : List Value) → Means (best_of better values)
best_means better [] = tt
best_means better (value ∷ values) = tt

values_means : (scope : List TableSchema) (snapshot : Option ℕ) (rows : List (List Value)) (e : ExpressionTree) → Means (values_over scope snapshot rows e)
values_means scope snapshot rows e = each_means (λ (row : List Value). at.value_of scope snapshot row e) rows (λ row. value_means scope snapshot row e)

aggregate_means : (scope : List TableSchema) (snapshot : Option ℕ) (rows : List (List Value)) (a : Aggregate) → Means (aggregate_over scope snapshot rows a)
aggregate_means scope snapshot rows CountRows = whole_means (pos (length rows))
aggregate_means scope snapshot rows (Count e) = then_means (values_over scope snapshot rows e) count_of (values_means scope snapshot rows e) (λ values. whole_means (pos (length values)))
aggregate_means scope snapshot rows (Sum e) =
    then_means (values_over scope snapshot rows e) sum_of (values_means scope snapshot rows e)
    (λ values. then_means (each number_of values) (λ numbers. whole (total numbers)) (each_means number_of values number_means) (λ numbers. whole_means (total numbers)))
aggregate_means scope snapshot rows (Min e) = then_means (values_over scope snapshot rows e) (best_of (ord_min value_cmp)) (values_means scope snapshot rows e) (best_means (ord_min value_cmp))
aggregate_means scope snapshot rows (Max e) = then_means (values_over scope snapshot rows e) (best_of (ord_max value_cmp)) (values_means scope snapshot rows e) (best_means (ord_max value_cmp))

output_means : (scope : List TableSchema) (snapshot : Option ℕ) (rows : List (List Value)) (o : OutputValue) → Means (output_over scope snapshot rows o)
output_means scope snapshot rows (value.Expression e) = value_means scope snapshot _ e
output_means scope snapshot rows (value.Aggregate a) = aggregate_means scope snapshot rows a

outputs_means : (scope : List TableSchema) (snapshot : Option ℕ) (list : SelectList) (rows : List (List Value)) → Means (outputs_over scope snapshot list rows)
outputs_means scope snapshot All rows = tt
outputs_means scope snapshot (Outputs outputs) rows = each_means (λ (output : Output). output_over scope snapshot rows output.value) outputs (λ output. output_means scope snapshot rows output.value)

row_of_row_means : (scope : List TableSchema) (snapshot : Option ℕ) (list : SelectList) (row : List Value) → Means (row_of_row scope snapshot list row)
row_of_row_means scope snapshot list row =
    then_means (outputs_over scope snapshot list (row ∷ [])) (λ (outputs : List Value). Ok (record { outputs = outputs; origin = row })) (outputs_means scope snapshot list (row ∷ [])) (λ outputs. tt)

row_of_group_means : (scope : List TableSchema) (snapshot : Option ℕ) (list : SelectList) (rows : List (List Value)) → Means (row_of_group scope snapshot list rows)
row_of_group_means scope snapshot list rows =
    then_means (outputs_over scope snapshot list rows) (λ (outputs : List Value). Ok (record { outputs = outputs; origin = [] })) (outputs_means scope snapshot list rows) (λ outputs. tt)

keyed_means : (scope : List TableSchema) (columns : List ColumnName) (row : List Value) → Means (keyed_row scope columns row)
keyed_means scope columns row =
    then_means (each (at.column_value scope row) columns) (λ (key : List Value). Ok (record { key = key; row = row }))
    (each_means (at.column_value scope row) columns (λ name. known_value (at.value_at row (place_of scope name)))) (λ key. tt)

groups_means : (scope : List TableSchema) (columns : List ColumnName) (outputs : List Output) (rows : List (List Value)) → Means (groups_by scope columns outputs rows)
groups_means scope [] outputs rows = tt
groups_means scope (column ∷ columns) outputs rows =
    then_means (each (keyed_row scope (column ∷ columns)) rows) (λ (keyed : List KeyedRow). Ok (groups keyed)) (each_means (keyed_row scope (column ∷ columns)) rows (keyed_means scope (column ∷ columns))) (λ keyed. tt)

rows_of_groups_means : (scope : List TableSchema) (snapshot : Option ℕ) (columns : List ColumnName) (list : SelectList) (rows : List (List Value)) → Means (rows_of_groups scope snapshot columns list rows)
rows_of_groups_means scope snapshot columns All rows = tt
rows_of_groups_means scope snapshot columns (Outputs outputs) rows =
    then_means (groups_by scope columns outputs rows) (λ (some : List (List (List Value))). each (row_of_group scope snapshot (Outputs outputs)) some) (groups_means scope columns outputs rows)
    (λ some. each_means (row_of_group scope snapshot (Outputs outputs)) some (row_of_group_means scope snapshot (Outputs outputs)))

output_rows_means : (scope : List TableSchema) (snapshot : Option ℕ) (select : Select) (rows : List (List Value)) → Means (output_rows scope snapshot select rows)
output_rows_means scope snapshot select rows =
    if_means (is_grouped select) (rows_of_groups scope snapshot select.group_by select.list rows) (each (row_of_row scope snapshot select.list) rows)
    (rows_of_groups_means scope snapshot select.group_by select.list rows) (each_means (row_of_row scope snapshot select.list) rows (row_of_row_means scope snapshot select.list))

place_means : (of_rows : Bool) (output column : Option ℕ) → Means (key_place of_rows output column)
place_means of_rows (Some output) column = tt
place_means true None (Some column) = tt
place_means true None None = tt
place_means false None column = tt

key_means : (select : Select) (scope : List TableSchema) (columns : List TableColumn) (key : OrderKey) → Means (sort_key select scope columns key)
key_means select scope columns key =
    then_means (key_place (not (is_grouped select || select.distinct)) (output_place columns key.column.table key.column.column) (place_of scope key.column))
    (λ (place : KeyPlace). Ok (record { place = place; direction = key.direction })) (place_means _ _ _) (λ place. tt)

pub answer_means : (select : Select) (scope : List TableSchema) (columns : List TableColumn) (snapshot : Option ℕ) (firsts : List (List Value)) (seconds : Option (List (List Value)))
    → Means (answer select scope columns snapshot firsts seconds)
answer_means select scope columns snapshot firsts seconds =
    then_means (kept (holds_at scope snapshot select.condition) (joined_rows firsts seconds)) _ (kept_means (holds_at scope snapshot select.condition) (joined_rows firsts seconds) (holds_means scope snapshot select.condition))
    (λ rows. then_means (output_rows scope snapshot select rows) _ (output_rows_means scope snapshot select rows)
    (λ found. then_means (each (sort_key select scope columns) select.order_by) _ (each_means (sort_key select scope columns) select.order_by (key_means select scope columns)) (λ keys. tt)))
