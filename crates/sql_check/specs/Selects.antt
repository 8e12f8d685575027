-- The names and types of selects.
use Rattle.std.specs.Prelude.{◌&&◌, ◌||◌, ◌==◌, ℕ, Bool, true, false, not, Option, Some, is_none, List, [], length}
use Rattle.std.specs.List.{list_any}
use Rattle.std.specs.Option.{option_map_or}
use Rattle.sql_tree.specs.declared.name.ColumnName.{ColumnName}
use Rattle.sql_tree.specs.declared.schema.TableSchema.{TableSchema}
use Rattle.sql_tree.specs.declared.select.OrderKey.{OrderKey}
use Rattle.sql_tree.specs.declared.select.Output.{Output}
use Rattle.sql_tree.specs.declared.select.OutputValue.{OutputValue}
use Rattle.sql_tree.specs.declared.select.OutputValue.TheVariants as output
use Rattle.sql_tree.specs.declared.select.Select.{Select}
use Rattle.sql_tree.specs.declared.select.SelectList.{SelectList}
use Rattle.sql_tree.specs.declared.select.SelectList.TheVariants.{All, Outputs}
use Rattle.sql_tree.specs.declared.statement.Column.{Column}
use Rattle.sql_tree.specs.Condition.{ConditionTree}
use Rattle.sql_tree.specs.Expression.{ExpressionTree, column_of, is_constant}
use Rattle.sql_tree.specs.Scope.{has_column, place_of}
use Rattle.sql_tree.specs.Select.{is_grouped, outputs_of}
use Rattle.sql_kinds.specs.Expressions.{compares_apart, has_unknown_operand}
use Rattle.sql_kinds.specs.Expressions.{is_unknown, output_has_unknown, output_kind}
use Rattle.sql_check.specs.Outputs.{answer_columns}

-- whether a WHERE has an unknown side
abbrev pub where_has_unknown : List TableSchema → Option ℕ → Option ConditionTree → Bool
where_has_unknown scope snapshot condition = option_map_or (has_unknown_operand scope snapshot) condition false

-- whether a WHERE compares INT with TEXT
abbrev pub where_compares_apart : List TableSchema → Option ConditionTree → Bool
where_compares_apart scope condition = option_map_or (compares_apart scope) condition false

-- whether an output has an unknown name
abbrev pub list_has_unknown : List TableSchema → Option ℕ → SelectList → Bool
list_has_unknown scope snapshot list =
    list_any (λ (output : Output). output_has_unknown scope snapshot output.value) (outputs_of list)

-- whether a name without a table is that of a column of the answer
abbrev pub names_output : List Column → ColumnName → Bool
names_output columns name = is_none name.table && has_column columns name.column

-- whether rows can be ordered by what the name stands for: a column of the answer, or a column of the scope where each
-- row of the answer comes from one row
abbrev pub is_key : List TableSchema → Select → List Column → ColumnName → Bool
is_key scope select columns name =
    names_output columns name || (not (is_grouped select || select.distinct) && not (is_unknown scope name))

abbrev pub keys_have_unknown : List TableSchema → Select → List Column → Bool
keys_have_unknown scope select columns =
    list_any (λ (key : OrderKey). not (is_key scope select columns key.column)) select.order_by

-- whether a select has an unknown name in its outputs, its WHERE, its GROUP BY or its ORDER BY
abbrev pub select_has_unknown : Option ℕ → Select → List TableSchema → Bool
select_has_unknown snapshot select scope =
    list_has_unknown scope snapshot select.list
    || where_has_unknown scope snapshot select.condition
    || list_any (is_unknown scope) select.group_by
    || keys_have_unknown scope select (answer_columns scope select.list)

-- whether two places are there, and are the same
abbrev pub same_place : Option ℕ → Option ℕ → Bool
same_place (Some a) (Some b) = a == b
same_place _ _ = false

-- whether the name is that of a column of GROUP BY, however either is written
abbrev pub is_grouped_by : List TableSchema → List ColumnName → ColumnName → Bool
is_grouped_by scope columns name =
    list_any (λ (column : ColumnName). same_place (place_of scope column) (place_of scope name)) columns

-- whether an expression has one value for each group: a literal, the number of the snapshot or a column of GROUP BY
abbrev pub is_of_group : List TableSchema → List ColumnName → ExpressionTree → Bool
is_of_group scope columns of = is_constant of || option_map_or (is_grouped_by scope columns) (column_of of) false

abbrev pub output_is_of_group : List TableSchema → List ColumnName → OutputValue → Bool
output_is_of_group scope columns (output.Expression of) = is_of_group scope columns of
output_is_of_group scope columns (output.Aggregate of) = true

-- whether an output has more than one value for a group, as `*` has
abbrev pub breaks_groups : List TableSchema → List ColumnName → SelectList → Bool
breaks_groups scope columns All = true
breaks_groups scope columns (Outputs outputs) =
    list_any (λ (output : Output). not (output_is_of_group scope columns output.value)) outputs

-- whether an output has no kind
abbrev pub lacks_kind : List TableSchema → SelectList → Bool
lacks_kind scope list = list_any (λ (output : Output). is_none (output_kind scope output.value)) (outputs_of list)

-- whether a select has a wrong type in its outputs or its WHERE, or an output that breaks its groups
abbrev pub select_is_mistyped : Select → List TableSchema → Bool
select_is_mistyped select scope =
    lacks_kind scope select.list
    || where_compares_apart scope select.condition
    || (is_grouped select && breaks_groups scope select.group_by select.list)
