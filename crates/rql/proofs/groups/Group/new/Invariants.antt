use Rattle.std.proofs.Common.{◌≡◌, length}
use Rattle.rql.proofs.GroupFolds.{CellsOf}
use Rattle.rql.proofs.groups.Group.new.Given as goal

abbrev pub invariant-loop-place : goal.invariant-loop-place
invariant-loop-place g l = record {
  as_many : length l.cells.items ≡ l.place;
  cells : CellsOf l.functions l.row l.cells.items;
}
