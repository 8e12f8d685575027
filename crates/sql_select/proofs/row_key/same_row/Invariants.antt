use Rattle.std.proofs.Common.{◌≡◌, length}
use Rattle.sql_select.specs.Same.{same_row}
use Rattle.sql_select.proofs.row_key.same_row.Given as goal

abbrev pub invariant-loop-x : goal.invariant-loop-x
invariant-loop-x l = same_row l.left l.right ≡ same_row l.a l.b

abbrev pub decreases-loop-x : goal.decreases-loop-x
decreases-loop-x l = length l.left
