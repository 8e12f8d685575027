use Rattle.rql.proofs.GroupFolds.{AddedBelow}
use Rattle.rql.proofs.groups.Group.add.Given as goal

abbrev pub invariant-loop-place : goal.invariant-loop-place
invariant-loop-place g l = AddedBelow l.place l.row l.fn.self.cells.items l.self.cells.items
