use Rattle.turn.specs.Seats.{IsSame}
use Rattle.turn.specs.Tables.{table_of}
use Rattle.store_tests.specs.Steps.{Rests}
use Rattle.store_tests.proofs.copied.act_all.Given as goal

abbrev pub invariant-steps : goal.invariant-steps
invariant-steps g l = record {
  rests : Rests (table_of l.store.turn) l.seat;
  same : IsSame l.fn.seat l.seat;
}
