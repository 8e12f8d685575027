use Rattle.std.proofs.Common.{◌≡◌}
use Rattle.sql_select.specs.Bound.{keeps}
use Rattle.sql_exec.specs.Bound.{placed_gone_by}
use Rattle.sql_exec.specs.Planning.{picked}
use Rattle.sql_exec.proofs.Picking.{behind}
use Rattle.sql_exec.proofs.changing.gone_by.Given as goal

abbrev pub invariant-loop-placed : goal.invariant-loop-placed
invariant-loop-placed l = picked (placed_gone_by (keeps l.filter)) l.fn.rows.items ≡ behind l.gone.items (picked (placed_gone_by (keeps l.filter)) l.placed-iterator.rest.items)
