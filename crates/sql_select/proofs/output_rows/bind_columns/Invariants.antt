use Rattle.std.proofs.Common.{◌≡◌, ◌++◌, drop, map}
use Rattle.evaluation.specs.Bound.{column_source}
use Rattle.sql_select.proofs.output_rows.bind_columns.Given as goal

abbrev pub invariant-loop-column : goal.invariant-loop-column
invariant-loop-column l = l.sources.items ++ map (column_source l.scope) (drop l.column-index l.columns) ≡ map (column_source l.scope) l.columns
