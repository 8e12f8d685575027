use Rattle.std.proofs.Common.{◌≡◌, ◌++◌}
use Rattle.heap_file.specs.Filling.{placed_from}
use Rattle.heap_file.proofs.filling.push_filled.Given as goal

abbrev pub invariant-loop-place : goal.invariant-loop-place
invariant-loop-place l = l.placed.items ≡ l.fn.placed.items ++ placed_from l.filled.number l.filled.page l.place
