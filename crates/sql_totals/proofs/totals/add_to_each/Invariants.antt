use Rattle.std.proofs.Common.{◌≡◌, drop, take}
use Rattle.sql_select.specs.Each.{each, onto}
use Rattle.sql_totals.specs.Totals.{with_row}
use Rattle.sql_totals.proofs.totals.add_to_each.Given as goal

abbrev pub invariant-loop-total : goal.invariant-loop-total
invariant-loop-total l =
    onto (take l.total-index l.totals) (each (with_row l.row) (drop l.total-index l.totals)) ≡ each (with_row l.row) l.fn.totals
