use Rattle.std.proofs.Common.{drop}
use Rattle.history.specs.Right.{AreRight}
use Rattle.history_tests.proofs.replays.are_right.Given as goal

abbrev pub invariant-loop-change : goal.invariant-loop-change
invariant-loop-change l = AreRight l.place (drop l.change-index l.changes) → AreRight l.fn.base l.changes
