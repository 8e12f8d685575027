use Rattle.turn.specs.Tables.{table_of}
use Rattle.store.proofs.ByTable.{refused_so}
use Rattle.store.proofs.recall.read_uncounted.Goals as goal

pub returns-clause-cause : goal.returns-clause-cause
returns-clause-cause g c = refused_so g.D.Disk.is_honest g.D.Disk.state g.D.Disk.faults (table_of c.args.store.now.turn) g.D.Disk.remembers g.D.Disk.clock c.args.kept.now c.args.snapshot c.new-steps.result c.read_by.new.steps c.args.page c.args.out.now c.args.seat.now c.read_by.new.seat c.read_by.result c.read_by.ensures.reads
