-- What follows from the bounds that a condition sets.
use Rattle.std.specs.Prelude.{◌≡◌, ℕ, true, IsTrue, Option, Some, List, Ok, slice_get}
use Rattle.values.specs.declared.value.Value.{Value}
use Rattle.sql_tree.specs.Condition.{ConditionTree}
use Rattle.sql_tree.specs.Evaluation.{is_true}
use Rattle.sql_tree.specs.declared.schema.TableSchema.{TableSchema}
use Rattle.sql_exec.specs.Bounds.{bounds_of, is_within}
use Rattle.sql_exec.specs.declared.bounds.BoundColumn.{BoundColumn}

-- where a condition is true at a row, the value in a column lies within the bounds that the condition sets to it
abbrev pub BoundsHold : Type 0
BoundsHold = (scope : List TableSchema) (snapshot : Option ℕ) (row : List Value) (column : BoundColumn) (value : Value)
    (condition : ConditionTree)
    → slice_get row column.place ≡ Some value → is_true scope snapshot row condition ≡ Ok true
    → IsTrue (is_within (bounds_of scope column condition) value)
