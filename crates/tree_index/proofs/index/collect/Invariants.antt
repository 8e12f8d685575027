use Rattle.std.proofs.Common.{◌≡◌}
use Rattle.pager.specs.Index.{between}
use Rattle.tree_index.specs.Work.{along}
use Rattle.tree_index.proofs.index.collect.Given as goal

abbrev pub invariant-loop-met : goal.invariant-loop-met
invariant-loop-met l = l.found.items ≡ along (between l.low l.high) l.yielded
