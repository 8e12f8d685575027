use Rattle.turn.specs.Tables.{table_of}
use Rattle.store.proofs.FaultLeft.{serves}
use Rattle.store_tests.proofs.Stepping.{written_may}
use Rattle.store_tests.proofs.steps.writes_back.Goals as goal

pub write_round-requires-clause-serve : goal.write_round-requires-clause-serve
write_round-requires-clause-serve g c = serves c.args.seat.now _ c.requires.ready.1

pub returns-in-Ok-clause-rests : goal.returns-in-Ok-clause-rests
returns-in-Ok-clause-rests g c = (c.write_round.ensures.ready, written_may g.D.Disk.is_honest g.D.Disk.state g.D.Disk.faults (table_of c.args.store.now.turn) g.D.Disk.remembers g.D.Disk.clock 1 c.number.result c.args.seat.now c.write_round.new.seat c.requires.ready.0.0 c.requires.ready.1 c.in-Ok.more c.in-Ok.ensures.round)
