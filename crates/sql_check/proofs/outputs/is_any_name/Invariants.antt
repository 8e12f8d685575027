use Rattle.std.proofs.Common.{◌≡◌, ◌+◌, List, drop}
use Rattle.sql_tree.specs.declared.schema.TableSchema.{TableSchema}
use Rattle.sql_tree.specs.Scope.{has_column}
use Rattle.sql_check.specs.Outputs.{output_columns}
use Rattle.sql_check.proofs.outputs.is_any_name.Given as goal

abbrev pub invariant-loop-i : goal.invariant-loop-i
invariant-loop-i l =
    (scope : List TableSchema)
    → has_column (output_columns scope (l.i + 1) (drop l.i l.outputs)) l.name ≡ has_column (output_columns scope 1 l.outputs) l.name
