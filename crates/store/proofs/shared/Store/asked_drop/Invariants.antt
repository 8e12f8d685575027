use Rattle.std.specs.Prelude.{◌≡◌, true}
use Rattle.txn_set.specs.Ledger.{is_closed}
use Rattle.turn.specs.Seats.{IsSame, mine}
use Rattle.turn.specs.Tables.{table_of}
use Rattle.store.specs.RoundCalls.{DropDoes}
use Rattle.store.specs.Seats.{IsReady, IsWhole}
use Rattle.store.proofs.Rooming.{LeadsOn}
use Rattle.store.proofs.shared.Store.asked_drop.Given as goal

abbrev pub invariant-ask : goal.invariant-ask
invariant-ask g l = record {
  ready : IsReady (table_of l.self.turn) l.seat × IsWhole l.seat;
  is_closed : is_closed (mine l.seat).work ≡ true;
  same : IsSame l.fn.seat l.seat;
  leads : LeadsOn g.D.Disk.is_honest g.D.Disk.state g.D.Disk.faults (table_of l.self.turn) g.D.Disk.remembers g.D.Disk.clock l.who
      (DropDoes g.D.Disk.is_honest g.D.Disk.state g.D.Disk.faults g.D.Disk.remembers g.D.Disk.clock l.who l.below) l.fn.seat l.seat;
}
