-- Columns, by their names and kinds.
use Rattle.std.specs.Prelude.{◌&&◌, ◌==◌, ℕ, Bool, List}
use Rattle.std.specs.Cmp.Lexicographic.{pointwise}
use Rattle.sql_tree.specs.Rows.{same_kind}
use Rattle.sql_tree.specs.declared.statement.Column.{Column}

-- whether two columns have the same name and the same kind
abbrev pub same_column : Column → Column → Bool
same_column a b = pointwise ◌==◌ a.name b.name && same_kind a.kind b.kind

abbrev pub same_columns : List Column → List Column → Bool
same_columns = pointwise same_column

abbrev pub name_of : Column → List ℕ
name_of column = column.name
