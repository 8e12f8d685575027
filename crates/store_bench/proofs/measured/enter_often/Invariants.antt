use Rattle.std.specs.Prelude.{◌≡◌, None}
use Rattle.turn.specs.Seats.{IsSame, mine}
use Rattle.turn.specs.Tables.{table_of}
use Rattle.store.specs.Seats.{IsReady, IsWhole}
use Rattle.store_bench.proofs.measured.enter_often.Given as goal

abbrev pub invariant-rounds : goal.invariant-rounds
invariant-rounds g l = record {
  ready : IsReady (table_of l.store.turn) l.seat × IsWhole l.seat;
  idle : (mine l.seat).work ≡ None;
  same : IsSame l.fn.seat l.seat;
}
