use Rattle.std.proofs.Common.{◌≡◌}
use Rattle.sql_select.specs.Bound.{keyed_by, values_at}
use Rattle.sql_select.specs.Each.{each, onto}
use Rattle.sql_select.proofs.output_rows.rows_by.Given as goal

abbrev pub invariant-loop-row : goal.invariant-loop-row
invariant-loop-row l = onto l.keyed.items (each (keyed_by (values_at l.columns)) l.row-iterator.rest.items) ≡ each (keyed_by (values_at l.columns)) l.fn.rows.items
