use Rattle.std.proofs.Common.{◌≡◌}
use Rattle.sql_select.specs.Bound.{keeps}
use Rattle.tables.specs.Bound.{assigns}
use Rattle.sql_exec.specs.Bound.{placed_changes_by}
use Rattle.sql_exec.specs.Planning.{picked}
use Rattle.sql_exec.proofs.Picking.{behind}
use Rattle.sql_exec.proofs.changing.changes_by.Given as goal

abbrev pub invariant-loop-was : goal.invariant-loop-was
invariant-loop-was l =
    let step = placed_changes_by (keeps l.filter) (assigns l.assignments) in
    picked step l.fn.rows.items ≡ behind l.changes.items (picked step l.was-iterator.rest.items)
