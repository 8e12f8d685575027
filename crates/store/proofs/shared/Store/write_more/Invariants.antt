use Rattle.turn.specs.Tables.{table_of}
use Rattle.store.specs.Rounds.{HasWritten, Passes}
use Rattle.store.proofs.shared.Store.write_more.Given as goal

abbrev pub invariant-pages : goal.invariant-pages
invariant-pages g l = record {
  passes : Passes (table_of l.self.turn) l.fn.seat l.seat;
  written : HasWritten g.D.Disk.is_honest g.D.Disk.state g.D.Disk.faults (table_of l.self.turn) g.D.Disk.remembers g.D.Disk.clock l.who l._count l.fn.seat l.seat;
}
