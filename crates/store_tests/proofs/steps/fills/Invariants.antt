use Rattle.turn.specs.Seats.{IsSame}
use Rattle.turn.specs.Tables.{table_of}
use Rattle.store.specs.Seats.{IsOpenIn}
use Rattle.store_tests.specs.Steps.{MayCall}
use Rattle.store_tests.proofs.steps.fills.Given as goal

abbrev pub invariant-pages : goal.invariant-pages
invariant-pages g l = record {
  ready : MayCall (table_of l.store.turn) l.seat;
  still : IsOpenIn l.seat l.who;
  same : IsSame l.fn.seat l.seat;
}
