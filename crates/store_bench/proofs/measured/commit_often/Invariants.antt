use Rattle.std.specs.Prelude.{◌≡◌, None}
use Rattle.turn.specs.Seats.{IsSame, mine}
use Rattle.turn.specs.Tables.{table_of}
use Rattle.store.specs.Seats.{IsReady, IsSized, IsWhole}
use Rattle.store_bench.proofs.measured.commit_often.Given as goal

abbrev pub invariant-rounds : goal.invariant-rounds
invariant-rounds g l = record {
  ready : IsReady (table_of l.store.turn) l.seat × IsWhole l.seat;
  idle : (mine l.seat).work ≡ None;
  sized : IsSized l.store.pages l.seat;
  same : IsSame l.fn.seat l.seat;
}
