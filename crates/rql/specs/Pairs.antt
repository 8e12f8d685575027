-- Columns in pairs with functions.
use Rattle.std.specs.Prelude.{ℕ, Bool, false, not, List, Option}
use Rattle.std.specs.List.{find, list_any}
use Rattle.std.specs.Option.{option_map, option_map_or}
use Rattle.sql_check.specs.Names.{has_name}
use Rattle.values.specs.Name.{same_name}
use Rattle.sql_tree.specs.declared.statement.Column.{Column}
use Rattle.rql.specs.Columns.{name_of}
use Rattle.rql.specs.Variable.{adds_texts}
use Rattle.rql.specs.declared.function.Function.{Function}
use Rattle.rql.specs.declared.pair.Pair.{Pair}

-- the name of a pair's column
abbrev pub column_name : Pair → List ℕ
column_name pair = pair.column

-- the function of a column, where a pair has the column
abbrev pub function_of : List Pair → Column → Option Function
function_of pairs column =
    option_map (λ (pair : Pair). pair.function) (find (λ (pair : Pair). same_name pair.column column.name) pairs)

-- whether a pair's column is none of the columns
abbrev pub names_unknown : List Pair → List Column → Bool
names_unknown pairs columns = list_any (λ (pair : Pair). not (has_name name_of pair.column columns)) pairs

-- whether a pair adds the texts of the column
abbrev pub sums_texts : List Pair → Column → Bool
sums_texts pairs column = option_map_or (λ function. adds_texts function column.kind) (function_of pairs column) false
