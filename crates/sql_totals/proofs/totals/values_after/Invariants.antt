use Rattle.std.proofs.Common.{◌≡◌, drop}
use Rattle.sql_select.specs.Each.{each, onto}
use Rattle.sql_totals.specs.Totals.{value_after}
use Rattle.sql_totals.proofs.totals.values_after.Given as goal

abbrev pub invariant-loop-total : goal.invariant-loop-total
invariant-loop-total l =
    onto l.values.items (each (value_after l.rows) (drop l.total-index l.totals)) ≡ each (value_after l.rows) l.totals
