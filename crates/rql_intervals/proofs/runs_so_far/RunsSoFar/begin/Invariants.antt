use Rattle.std.proofs.Common.{◌≡◌, ◌+◌, ◌++◌, drop}
use Rattle.rql_intervals.specs.RunsSoFar.{AllFit, begun}
use Rattle.rql_intervals.proofs.runs_so_far.RunsSoFar.begin.Given as goal

abbrev pub invariant-loop-at : goal.invariant-loop-at
invariant-loop-at l = record {
  last : l.self.last ≡ l.fn.self.last;
  runs : l.self.runs.items ++ begun l.place l.self.last (drop l.at l.rows) ≡ l.fn.self.runs.items ++ begun
      l.place l.fn.self.last l.rows;
  fit : AllFit (l.place + 1) l.fn.self.ongoing.items l.fn.self.runs.items → AllFit (l.place + 1) l.self.ongoing.items
      l.self.runs.items;
}
