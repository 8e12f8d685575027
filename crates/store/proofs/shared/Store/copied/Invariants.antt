use Rattle.turn.specs.Tables.{table_of}
use Rattle.store.specs.Rounds.{IsBatchAt, Passes}
use Rattle.store.proofs.Copying.{Leads}
use Rattle.store.proofs.shared.Store.copied.Given as goal

abbrev pub invariant-visit : goal.invariant-visit
invariant-visit g l = record {
  passes : Passes (table_of l.self.turn) l.fn.seat l.seat;
  batch : IsBatchAt g.D.Disk.is_honest g.D.Disk.state l.seat l.batch;
  leads : Leads g.D.Disk.is_honest g.D.Disk.state g.D.Disk.faults (table_of l.self.turn) g.D.Disk.remembers g.D.Disk.clock l.batch l.fn.seat l.seat;
}
