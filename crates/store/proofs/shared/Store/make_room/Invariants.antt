use Rattle.turn.specs.Tables.{table_of}
use Rattle.store.specs.Rounds.{Passes}
use Rattle.store.proofs.Rooming.{MakesOn}
use Rattle.store.proofs.shared.Store.make_room.Given as goal

abbrev pub invariant-rounds : goal.invariant-rounds
invariant-rounds g l = record {
  passes : Passes (table_of l.self.turn) l.fn.seat l.seat;
  leads : MakesOn g.D.Disk.is_honest g.D.Disk.state g.D.Disk.faults (table_of l.self.turn) g.D.Disk.remembers g.D.Disk.clock l.who l.bytes l.fn.seat l.seat;
}
