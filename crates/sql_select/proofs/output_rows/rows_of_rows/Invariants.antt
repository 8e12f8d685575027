use Rattle.std.proofs.Common.{◌≡◌}
use Rattle.sql_select.specs.Bound.{list_over, row_by}
use Rattle.sql_select.specs.Each.{each, onto}
use Rattle.sql_select.proofs.output_rows.rows_of_rows.Given as goal

abbrev pub invariant-loop-row : goal.invariant-loop-row
invariant-loop-row l = onto l.found.items (each (row_by (list_over l.list)) l.row-iterator.rest.items) ≡ each (row_by (list_over l.list)) l.fn.rows.items
