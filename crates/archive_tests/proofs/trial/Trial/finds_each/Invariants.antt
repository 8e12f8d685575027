use Rattle.std.proofs.Common.{◌≤◌}
use Rattle.page_table.specs.Table.{IsFirstMet}
use Rattle.archive_tests.proofs.trial.Trial.finds_each.Given as goal

abbrev pub invariant-loop-page : goal.invariant-loop-page
invariant-loop-page g l = record {
  met : IsFirstMet l.table l.self.archive.side.levels;
  held : l.upto ≤ l.self.archive.side.held;
}
