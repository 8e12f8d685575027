use Rattle.std.specs.Prelude.{◌≡◌}
use Rattle.turn.specs.Seats.{IsSame, mine}
use Rattle.turn.specs.Tables.{table_of}
use Rattle.store.specs.Past.{IsPinnedBy, IsTableOf}
use Rattle.store.specs.Seats.{IsReady, IsSized, IsWhole}
use Rattle.store_bench.proofs.measured.recall_each.Given as goal

abbrev pub invariant-rounds : goal.invariant-rounds
invariant-rounds g l = record {
  ready : IsReady (table_of l.store.turn) l.seat × IsWhole l.seat;
  pinned : IsPinnedBy l.seat 1;
  work : (mine l.seat).work ≡ (mine l.fn.seat).work;
  table : IsTableOf g.D.Disk.is_honest g.D.Disk.state l.seat 1 l.table;
  sized : IsSized l.store.pages l.seat;
  same : IsSame l.fn.seat l.seat;
}
