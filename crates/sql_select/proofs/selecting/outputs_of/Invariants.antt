use Rattle.std.proofs.Common.{◌≡◌, ◌++◌, map}
use Rattle.sql_select.specs.Select.{outputs_of}
use Rattle.sql_select.proofs.selecting.outputs_of.Given as goal

abbrev pub invariant-loop-row : goal.invariant-loop-row
invariant-loop-row l = l.found.items ++ map outputs_of l.row-iterator.rest.items ≡ map outputs_of l.fn.rows.items
