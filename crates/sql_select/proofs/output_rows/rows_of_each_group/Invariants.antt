use Rattle.std.proofs.Common.{◌≡◌, drop}
use Rattle.sql_select.specs.Bound.{list_over, row_by_group}
use Rattle.sql_select.specs.Each.{each, onto}
use Rattle.sql_select.proofs.output_rows.rows_of_each_group.Given as goal

abbrev pub invariant-loop-group : goal.invariant-loop-group
invariant-loop-group l = onto l.found.items (each (row_by_group (list_over l.list)) (drop l.group-index l.group-items)) ≡ each (row_by_group (list_over l.list)) l.group-items
