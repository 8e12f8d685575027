use Rattle.std.proofs.Common.{◌≡◌, ◌++◌}
use Rattle.sql_select.specs.Groups.{distinct}
use Rattle.sql_select.proofs.grouping.distinct.Given as goal

abbrev pub invariant-loop-row : goal.invariant-loop-row
invariant-loop-row l = record {
  split : l.yielded ++ l.row-iterator.rest.items ≡ l.fn.rows.items;
  firsts : l.firsts.keys ≡ distinct l.yielded;
}

abbrev pub invariant-loop-row-2 : goal.invariant-loop-row-2
invariant-loop-row-2 l = l.found.items ++ l.row-iterator ≡ distinct l.fn.rows.items
