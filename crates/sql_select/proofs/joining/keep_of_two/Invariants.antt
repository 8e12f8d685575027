use Rattle.std.proofs.Common.{◌≡◌, drop, map}
use Rattle.std.specs.List.{flat_map}
use Rattle.sql_select.specs.Bound.{keeps}
use Rattle.sql_select.specs.Each.{onto}
use Rattle.sql_select.specs.Rows.{beside, kept}
use Rattle.sql_select.proofs.joining.keep_of_two.Given as goal

abbrev pub invariant-loop-first : goal.invariant-loop-first
invariant-loop-first g l =
    let seconds = map g.R.HasRow.row_of l.seconds in
    onto l.found.items (kept (keeps l.filter) (flat_map (beside seconds) (map g.R.HasRow.row_of (drop l.first-index l.firsts))))
    ≡ kept (keeps l.filter) (flat_map (beside seconds) (map g.R.HasRow.row_of l.firsts))
