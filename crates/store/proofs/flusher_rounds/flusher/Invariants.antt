use Rattle.std.specs.Prelude.{◌<◌}
use Rattle.turn.specs.Tables.{table_of}
use Rattle.store.specs.Rounds.{Passes, WritesRound}
use Rattle.store.specs.WorkerRounds.{AreAnswered}
use Rattle.store.proofs.flusher_rounds.flusher.Given as goal

abbrev pub invariant-rounds : goal.invariant-rounds
invariant-rounds g l = record {
  few : l.idle < 1000000;
  passes : Passes (table_of l.store.turn) l.fn.seat l.seat;
  answered : AreAnswered (WritesRound g.D.Disk.is_honest g.D.Disk.state g.D.Disk.faults (table_of l.store.turn) g.D.Disk.remembers g.D.Disk.clock l.who) l.idle l.fn.seat l.seat;
}
