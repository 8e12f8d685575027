use Rattle.std.proofs.Common.{◌≡◌, ◌++◌}
use Rattle.std.specs.List.{IsDistinct}
use Rattle.sql_select.specs.Groups.{groups, keys_of}
use Rattle.sql_select.specs.Same.{same_row}
use Rattle.sql_select.proofs.grouping.groups.Given as goal

abbrev pub invariant-loop-keyed : goal.invariant-loop-keyed
invariant-loop-keyed l = record {
  split : l.yielded ++ l.keyed-iterator.rest.items ≡ l.fn.rows.items;
  met : l.keys.keys ≡ keys_of l.yielded;
  apart : IsDistinct same_row l.keys.keys;
  grouped : l.found.items ≡ groups l.yielded;
}
