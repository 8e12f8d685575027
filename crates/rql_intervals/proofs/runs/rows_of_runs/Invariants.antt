use Rattle.std.proofs.Common.{◌≡◌, ◌++◌, map}
use Rattle.rql_intervals.specs.Intervals.{row_of_run}
use Rattle.rql_intervals.proofs.runs.rows_of_runs.Given as goal

abbrev pub invariant-loop-run : goal.invariant-loop-run
invariant-loop-run l = record {
  split : l.yielded ++ l.run-iterator.rest.items ≡ l.fn.found.runs.items;
  rows : l.rows.items ≡ map (row_of_run l.snapshots) l.yielded;
}
