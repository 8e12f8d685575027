use Rattle.std.proofs.Common.{◌≡◌, drop}
use Rattle.tables.specs.Bound.{assigns_all}
use Rattle.tables.proofs.assigning.assign.Given as goal

abbrev pub invariant-loop-assignment : goal.invariant-loop-assignment
invariant-loop-assignment l = assigns_all (drop l.assignment-index l.assignments) l.before l.row.items ≡ assigns_all l.assignments l.before l.initial.row.items
