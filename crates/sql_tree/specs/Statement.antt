-- The limits of statements.
use Rattle.std.specs.Prelude.{◌≤◌, List, length}
use Rattle.std.specs.List.{AllByRecursion}
use Rattle.retro_base.specs.declared.limits.TheConstants.{COLUMNS}
use Rattle.values.specs.declared.value.Value.{Value}
use Rattle.sql_tree.specs.declared.select.Select.{Select}
use Rattle.sql_tree.specs.declared.select.SelectList.{SelectList}
use Rattle.sql_tree.specs.declared.select.SelectList.TheVariants as list
use Rattle.sql_tree.specs.declared.statement.Statement.{Statement}
use Rattle.sql_tree.specs.declared.statement.Statement.TheVariants as statement

-- `*`, or at least one output
abbrev pub IsList : SelectList → Type 0
IsList list.All = Unit {0}
IsList (list.Outputs outputs) = 1 ≤ length outputs

abbrev pub IsSelect : Select → Type 0
IsSelect s = IsList s.list

-- The limits of a statement: a table has 1 to 16 columns, an insert has a tuple and each tuple a value, an update an
-- assignment, and a select an output.
abbrev pub IsStatement : Statement → Type 0
IsStatement (statement.CreateTable t) = (1 ≤ length t.columns) × (length t.columns ≤ COLUMNS)
IsStatement (statement.CreateIndex i) = Unit {0}
IsStatement (statement.Insert i) =
    (1 ≤ length i.tuples) × AllByRecursion (λ (tuple : List Value). 1 ≤ length tuple) i.tuples
IsStatement (statement.Update u) = 1 ≤ length u.assignments
IsStatement (statement.Delete d) = Unit {0}
IsStatement (statement.Select s) = IsSelect s
