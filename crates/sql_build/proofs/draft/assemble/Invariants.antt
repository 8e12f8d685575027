use Rattle.std.proofs.Common.{◌≡◌, length}
use Rattle.sql_build.specs.Built.{all_taken, empty}
use Rattle.sql_build.proofs.draft.assemble.Given as goal

abbrev pub invariant-loop-op : goal.invariant-loop-op
invariant-loop-op l = all_taken l.ops l.draft ≡ all_taken l.fn.ops empty

abbrev pub decreases-loop-op : goal.decreases-loop-op
decreases-loop-op l = length l.ops
