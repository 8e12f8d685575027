use Rattle.std.specs.Prelude.{◌<◌}
use Rattle.turn.specs.Tables.{table_of}
use Rattle.store.specs.Rounds.{Passes}
use Rattle.store.specs.WorkerRounds.{AreAnswered, Copies}
use Rattle.store.proofs.copier_rounds.copier.Given as goal

abbrev pub invariant-rounds : goal.invariant-rounds
invariant-rounds g l = record {
  few : l.idle < 1000000;
  passes : Passes (table_of l.store.turn) l.fn.seat l.seat;
  answered : AreAnswered (Copies g.D.Disk.is_honest g.D.Disk.state g.D.Disk.faults (table_of l.store.turn) g.D.Disk.remembers g.D.Disk.clock l.who) l.idle (l.fn.batch, l.fn.seat) (l.batch, l.seat);
}
