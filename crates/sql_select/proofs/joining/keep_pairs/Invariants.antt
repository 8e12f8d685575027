use Rattle.std.proofs.Common.{◌≡◌, drop, map}
use Rattle.sql_select.specs.Bound.{keeps}
use Rattle.sql_select.specs.Each.{onto}
use Rattle.sql_select.specs.Rows.{beside, kept}
use Rattle.sql_select.proofs.joining.keep_pairs.Given as goal

abbrev pub invariant-loop-second : goal.invariant-loop-second
invariant-loop-second g l =
    onto l.found.items (kept (keeps l.filter) (beside (map g.R.HasRow.row_of (drop l.second-index l.seconds)) l.first))
    ≡ onto l.initial.found.items (kept (keeps l.filter) (beside (map g.R.HasRow.row_of l.seconds) l.first))
