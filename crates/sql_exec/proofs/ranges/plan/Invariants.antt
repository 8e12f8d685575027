use Rattle.std.proofs.Common.{◌≡◌, None, drop}
use Rattle.sql_exec.proofs.Ranged.{best_behind}
use Rattle.sql_exec.proofs.ranges.plan.Given as goal

abbrev pub invariant-loop-index : goal.invariant-loop-index
invariant-loop-index l = best_behind l.table l.condition l.best (drop l.index-index l.indexes) ≡ best_behind l.table l.condition None l.indexes
