use Rattle.std.proofs.Common.{◌≡◌, ◌≤◌, length, take}
use Rattle.sql_select.specs.Order.{comes_before, ordered}
use Rattle.sql_select.proofs.Cutting.{onto}
use Rattle.sql_select.proofs.Sorting.{Rises}
use Rattle.sql_select.proofs.ordering.first_few.Given as goal

abbrev pub invariant-rows : goal.invariant-rows
invariant-rows l = record {
  same : take l.count (onto (comes_before l.keys) l.rest.items l.kept.items) ≡ take l.count (ordered (comes_before l.keys) l.fn.rows.items);
  few : length l.kept.items ≤ l.count;
  rise : Rises (comes_before l.keys) l.kept.items;
}

abbrev pub decreases-rows : goal.decreases-rows
decreases-rows l = length l.rest.items
