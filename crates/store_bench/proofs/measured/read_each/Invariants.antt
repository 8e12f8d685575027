use Rattle.std.specs.Prelude.{◌≡◌}
use Rattle.turn.specs.Seats.{IsSame}
use Rattle.turn.specs.Tables.{table_of}
use Rattle.store.specs.Seats.{IsOpenIn, IsReady, IsSized, IsWhole}
use Rattle.store_bench.proofs.measured.read_each.Given as goal

abbrev pub invariant-rounds : goal.invariant-rounds
invariant-rounds g l = record {
  ready : IsReady (table_of l.store.turn) l.seat × IsWhole l.seat;
  own : l.who.session ≡ l.seat.number;
  is_open : IsOpenIn l.seat l.who;
  sized : IsSized l.store.pages l.seat;
  same : IsSame l.fn.seat l.seat;
}
