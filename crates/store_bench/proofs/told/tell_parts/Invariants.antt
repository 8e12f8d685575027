use Rattle.std.specs.Prelude.{◌≡◌, None}
use Rattle.turn.specs.Seats.{mine}
use Rattle.turn.specs.Tables.{table_of}
use Rattle.store.specs.Seats.{IsReady, IsSized, IsWhole}
use Rattle.store_bench.proofs.told.tell_parts.Given as goal

abbrev pub invariant-parts : goal.invariant-parts
invariant-parts g l = record {
  ready : IsReady (table_of l.store.turn) l.seat × IsWhole l.seat;
  idle : (mine l.seat).work ≡ None;
  sized : IsSized l.store.pages l.seat;
}
