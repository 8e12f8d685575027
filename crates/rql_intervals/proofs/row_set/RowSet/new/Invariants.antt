use Rattle.std.proofs.Common.{◌≡◌}
use Rattle.indexmap.specs.IndexSet.{insert_all}
use Rattle.sql_select.specs.Same.{same_row}
use Rattle.rql_intervals.specs.Intervals.{set_of}
use Rattle.rql_intervals.proofs.row_set.RowSet.new.Given as goal

abbrev pub invariant-loop-row : goal.invariant-loop-row
invariant-loop-row l = insert_all same_row l.found.keys l.row-iterator.rest.items ≡ set_of l.fn.rows
