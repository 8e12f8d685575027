use Rattle.std.proofs.Common.{◌≡◌, length}
use Rattle.rql.specs.Columns.{same_columns}
use Rattle.rql.proofs.columns.same_columns.Given as goal

abbrev pub invariant-loop-x : goal.invariant-loop-x
invariant-loop-x l = same_columns l.left l.right ≡ same_columns l.a l.b

abbrev pub decreases-loop-x : goal.decreases-loop-x
decreases-loop-x l = length l.left
