use Rattle.std.proofs.Common.{◌≡◌, ◌++◌, drop, map}
use Rattle.tables.specs.Bound.{part, part_of}
use Rattle.tables.proofs.assigning.bind_all.Given as goal

abbrev pub invariant-loop-assignment : goal.invariant-loop-assignment
invariant-loop-assignment l = map part l.bound.items ++ map (part_of l.table l.snapshot) (drop l.assignment-index l.assignments) ≡ map (part_of l.table l.snapshot) l.assignments
