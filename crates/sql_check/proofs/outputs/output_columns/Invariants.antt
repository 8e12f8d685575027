use Rattle.std.proofs.Common.{◌≡◌, ◌+◌, ◌++◌, drop}
use Rattle.sql_check.specs.Outputs.{output_columns}
use Rattle.sql_check.proofs.outputs.output_columns.Given as goal

abbrev pub invariant-loop-i : goal.invariant-loop-i
invariant-loop-i l = l.columns ++ output_columns l.scope (l.i + 1) (drop l.i l.outputs) ≡ output_columns l.scope 1 l.outputs
