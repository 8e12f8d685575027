use Rattle.std.proofs.Common.{◌≡◌, ◌≤◌, ◌*◌, ◌+◌}
use Rattle.turn.specs.Seats.{mine}
use Rattle.turn.specs.Views.{PARTS}
use Rattle.turn_tests.specs.Ready.{IsReady}
use Rattle.turn_tests.proofs.visits.visit.Given as goal

abbrev pub invariant-rounds : goal.invariant-rounds
invariant-rounds g l = record {
  ready : IsReady l.turn.table.shared.table_id l.lines l.seat;
  number : l.seat.number ≡ l.fn.seat.number;
  parts : (mine l.seat).parts ≡ PARTS;
  few : l.lines ≤ 2 * l.item + 2;
}
