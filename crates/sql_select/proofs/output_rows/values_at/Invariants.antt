use Rattle.std.proofs.Common.{◌≡◌, drop}
use Rattle.sql_select.specs.Bound.{values_at}
use Rattle.sql_select.specs.Each.{onto}
use Rattle.sql_select.proofs.output_rows.values_at.Given as goal

abbrev pub invariant-loop-column : goal.invariant-loop-column
invariant-loop-column l = onto l.values.items (values_at (drop l.column-index l.columns) l.row) ≡ values_at l.columns l.row
