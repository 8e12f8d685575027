-- Rows that fit columns.
use Rattle.std.specs.Prelude.{◌&&◌, Bool, IsTrue, true, false, List, [], ◌∷◌}
use Rattle.std.specs.List.{AllByRecursion}
use Rattle.values.specs.declared.value.Kind.{Kind}
use Rattle.values.specs.declared.value.Kind.TheVariants as kind
use Rattle.values.specs.declared.value.Value.{Value}
use Rattle.values.specs.Value.{kind_of}
use Rattle.sql_tree.specs.declared.statement.Column.{Column}

-- whether two kinds are the same
abbrev pub same_kind : Kind → Kind → Bool
same_kind kind.Int kind.Int = true
same_kind kind.Int kind.Text = false
same_kind kind.Text kind.Int = false
same_kind kind.Text kind.Text = true

-- whether a row has one value of each column's kind, in the order of the columns
abbrev pub fits : List Column → List Value → Bool
fits [] [] = true
fits [] (value ∷ values) = false
fits (column ∷ columns) [] = false
fits (column ∷ columns) (value ∷ values) = same_kind column.kind (kind_of value) && fits columns values

-- each row has one value of each column's kind
abbrev pub AllFit : List Column → List (List Value) → Type 0
AllFit columns rows = AllByRecursion (λ (row : List Value). IsTrue (fits columns row)) rows
