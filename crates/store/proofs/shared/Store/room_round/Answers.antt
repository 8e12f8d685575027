use Rattle.std.proofs.Common.{Ok, refl}
use Rattle.turn.specs.Tables.{table_of}
use Rattle.store.specs.Rounds.{Cut, NoCopy, NoWrite}
use Rattle.store.proofs.Copying.{copy_ends}
use Rattle.store.proofs.Passing.{passes_on, serve_on}
use Rattle.store.proofs.Writing.{round_ends}
use Rattle.store.proofs.shared.Store.room_round.Goals as goal

pub returns-in-Err-clause-makes : goal.returns-in-Err-clause-makes
returns-in-Err-clause-makes g c = NoCopy c.args.batch.now c.copy_round.new.batch c.in-Err.why refl c.in-Err.ensures.round

pub write_round-requires-clause-serve : goal.write_round-requires-clause-serve
write_round-requires-clause-serve g c =
    serve_on (table_of c.args.self.now.turn) c.args.seat.now c.copy_round.new.seat (copy_ends g.D.Disk.is_honest g.D.Disk.state g.D.Disk.faults (table_of c.args.self.now.turn) g.D.Disk.remembers g.D.Disk.clock c.args.who c.args.batch.now c.copy_round.new.batch (Ok c.in_default.field-0) c.args.seat.now c.copy_round.new.seat c.requires.ready.0 c.in_default.ensures.round) c.args.who c.requires.serve

pub returns-in-Err-write_round-clause-makes : goal.returns-in-Err-write_round-clause-makes
returns-in-Err-write_round-clause-makes g c = NoWrite c.args.batch.now c.copy_round.new.batch c.in_default.field-0 c.in-Err-write_round.why c.copy_round.new.seat refl c.in_default.ensures.round c.in-Err-write_round.ensures.round

pub cut_log-requires-clause-serve : goal.cut_log-requires-clause-serve
cut_log-requires-clause-serve g c =
    let p = copy_ends g.D.Disk.is_honest g.D.Disk.state g.D.Disk.faults (table_of c.args.self.now.turn) g.D.Disk.remembers g.D.Disk.clock c.args.who c.args.batch.now c.copy_round.new.batch (Ok c.in_default.field-0) c.args.seat.now c.copy_round.new.seat c.requires.ready.0 c.in_default.ensures.round in
    serve_on (table_of c.args.self.now.turn) c.args.seat.now c.write_round.new.seat (passes_on (table_of c.args.self.now.turn) c.args.seat.now c.copy_round.new.seat p c.write_round.new.seat (round_ends g.D.Disk.is_honest g.D.Disk.state g.D.Disk.faults (table_of c.args.self.now.turn) g.D.Disk.remembers g.D.Disk.clock c.args.who (Ok c.in_default-write_round.field-0) c.copy_round.new.seat c.write_round.new.seat p.ready c.in_default-write_round.ensures.round)) c.args.who c.requires.serve

pub returns-clause-makes : goal.returns-clause-makes
returns-clause-makes g c = Cut c.args.batch.now c.copy_round.new.batch c.in_default.field-0 c.in_default-write_round.field-0 c.copy_round.new.seat c.write_round.new.seat c.in_default.ensures.round c.in_default-write_round.ensures.round c.cut_log.ensures.cuts
