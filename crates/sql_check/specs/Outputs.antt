-- The columns of a select's answer.
use Rattle.std.specs.Prelude.{◌+◌, ◌++◌, ℕ, Option, Some, None, List, [], ◌∷◌, codes, unwrap_or}
use Rattle.std.specs.Fmt.{decimal}
use Rattle.values.specs.declared.value.Kind.TheVariants as kind
use Rattle.sql_tree.specs.declared.schema.TableSchema.{TableSchema}
use Rattle.sql_tree.specs.declared.name.ColumnName.{ColumnName}
use Rattle.sql_tree.specs.declared.select.Output.{Output}
use Rattle.sql_tree.specs.declared.select.OutputValue.{OutputValue}
use Rattle.sql_tree.specs.declared.select.OutputValue.TheVariants as output
use Rattle.sql_tree.specs.declared.select.SelectList.{SelectList}
use Rattle.sql_tree.specs.declared.select.SelectList.TheVariants.{All, Outputs}
use Rattle.sql_tree.specs.declared.statement.Column.{Column}
use Rattle.sql_tree.specs.Expression.{column_of}
use Rattle.sql_tree.specs.Scope.{columns_of}
use Rattle.sql_kinds.specs.Expressions.{output_kind}

-- the name of an output that has none of its own: `col` and its place from 1
abbrev pub numbered_name : ℕ → List ℕ
numbered_name place = codes "col" ++ decimal place

-- the name of a column, or else of the place
abbrev pub column_or_place : ℕ → Option ColumnName → List ℕ
column_or_place place None = numbered_name place
column_or_place place (Some name) = name.column

-- the name of an output without AS
abbrev pub own_name : ℕ → OutputValue → List ℕ
own_name place (output.Expression of) = column_or_place place (column_of of)
own_name place (output.Aggregate of) = numbered_name place

-- the name of an output: its AS name, else its column's, else `col` and its place
abbrev pub output_name : ℕ → Output → List ℕ
output_name place output = unwrap_or output.name (own_name place output.value)

-- the column of an output; where the output has no kind, which no checked select has, it is INT
abbrev pub output_column : List TableSchema → ℕ → Output → Column
output_column scope place output =
    record { name = output_name place output; kind = unwrap_or (output_kind scope output.value) kind.Int }

-- the columns of outputs whose places count up from the first one's
abbrev pub output_columns : List TableSchema → ℕ → List Output → List Column
output_columns scope place [] = []
output_columns scope place (output ∷ outputs) =
    output_column scope place output ∷ output_columns scope (place + 1) outputs

-- the columns of an answer: for `*` all columns that are joined
abbrev pub answer_columns : List TableSchema → SelectList → List Column
answer_columns scope All = columns_of scope
answer_columns scope (Outputs outputs) = output_columns scope 1 outputs
