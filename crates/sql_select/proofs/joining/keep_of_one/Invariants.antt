use Rattle.std.proofs.Common.{◌≡◌, drop, map}
use Rattle.sql_select.specs.Bound.{keeps}
use Rattle.sql_select.specs.Each.{onto}
use Rattle.sql_select.specs.Rows.{kept}
use Rattle.sql_select.proofs.joining.keep_of_one.Given as goal

abbrev pub invariant-loop-row : goal.invariant-loop-row
invariant-loop-row g l = onto l.found.items (kept (keeps l.filter) (map g.R.HasRow.row_of (drop l.row-index l.rows))) ≡ kept (keeps l.filter) (map g.R.HasRow.row_of l.rows)
