use Rattle.std.proofs.Common.{Ok, Err, arith}
use Rattle.turn.specs.Tables.{table_of}
use Rattle.store.specs.Rounds.{WritesRound}
use Rattle.store.proofs.Passing.{passes_none}
use Rattle.store.specs.WorkerRounds.{NoneYet, worker}
use Rattle.store.proofs.WriteRounds.{ends_with, gives_so, left, passes_more}
use Rattle.store.proofs.Idle.{ended_so, last_none, one_more}
use Rattle.store.proofs.flusher_rounds.flusher.Goals as goal

pub rounds-init : goal.rounds-init
rounds-init g c = record { few = omega arith; passes = passes_none (table_of c.args.store.now.turn) c.args.seat.now c.requires.ready.0; answered = NoneYet c.args.seat.now }

pub rounds-preserved : goal.rounds-preserved
rounds-preserved g c = record {
  few = c.in_default.ensures.goes_on;
  passes = passes_more g.D.Disk.is_honest g.D.Disk.state g.D.Disk.faults (table_of c.args.store.now.turn) g.D.Disk.remembers g.D.Disk.clock c.args.phase c.number.result c.args.seat.now c.rounds.seat c.write_round.new.seat c.rounds.invariant.passes c.in-Ok.more c.in-Ok.ensures.round;
  answered = one_more (WritesRound g.D.Disk.is_honest g.D.Disk.state g.D.Disk.faults (table_of c.args.store.now.turn) g.D.Disk.remembers g.D.Disk.clock (worker c.args.phase c.number.result)) c.rounds.idle c.ends_behind.new.idle c.in-Ok.more c.args.seat.now c.rounds.seat c.write_round.new.seat c.in_default.ensures.counted c.rounds.invariant.answered c.in-Ok.ensures.round;
}

pub returns-in-Some-ends_behind-clause-rounds : goal.returns-in-Some-ends_behind-clause-rounds
returns-in-Some-ends_behind-clause-rounds g c = ends_with g.D.Disk.is_honest g.D.Disk.state g.D.Disk.faults (table_of c.args.store.now.turn) g.D.Disk.remembers g.D.Disk.clock c.args.phase c.number.result c.args.seat.now c.rounds.seat c.write_round.new.seat c.rounds.invariant.passes c.number.ensures (Ok c.in-Some-ends_behind.ended) (last_none (WritesRound g.D.Disk.is_honest g.D.Disk.state g.D.Disk.faults (table_of c.args.store.now.turn) g.D.Disk.remembers g.D.Disk.clock (worker c.args.phase c.number.result)) c.in-Ok.more c.rounds.seat c.write_round.new.seat c.in-Some-ends_behind.ensures.nothing c.in-Ok.ensures.round) c.args.done.now.flag.id c.rounds.idle c.rounds.invariant.few c.rounds.invariant.answered
    (ended_so c.args.done.now.flag.id c.rounds.idle c.ends_behind.new.idle c.in-Ok.more c.told-told.result c.in-Some-ends_behind.ended c.told-told.ensures c.in-Some-ends_behind.ensures.nothing c.in-Some-ends_behind.ensures.counted c.in-Some-ends_behind.ensures.ends)

pub returns-in-Some-ends_behind-clause-lines : goal.returns-in-Some-ends_behind-clause-lines
returns-in-Some-ends_behind-clause-lines g c = (left g.D.Disk.is_honest g.D.Disk.state g.D.Disk.faults (table_of c.args.store.now.turn) g.D.Disk.remembers g.D.Disk.clock c.args.phase c.number.result c.args.seat.now c.rounds.seat c.write_round.new.seat c.rounds.invariant.passes c.number.ensures (Ok c.in-Some-ends_behind.ended) (last_none (WritesRound g.D.Disk.is_honest g.D.Disk.state g.D.Disk.faults (table_of c.args.store.now.turn) g.D.Disk.remembers g.D.Disk.clock (worker c.args.phase c.number.result)) c.in-Ok.more c.rounds.seat c.write_round.new.seat c.in-Some-ends_behind.ensures.nothing c.in-Ok.ensures.round) c.requires.may).lines

pub returns-in-Some-ends_behind-clause-idle : goal.returns-in-Some-ends_behind-clause-idle
returns-in-Some-ends_behind-clause-idle g c = (left g.D.Disk.is_honest g.D.Disk.state g.D.Disk.faults (table_of c.args.store.now.turn) g.D.Disk.remembers g.D.Disk.clock c.args.phase c.number.result c.args.seat.now c.rounds.seat c.write_round.new.seat c.rounds.invariant.passes c.number.ensures (Ok c.in-Some-ends_behind.ended) (last_none (WritesRound g.D.Disk.is_honest g.D.Disk.state g.D.Disk.faults (table_of c.args.store.now.turn) g.D.Disk.remembers g.D.Disk.clock (worker c.args.phase c.number.result)) c.in-Ok.more c.rounds.seat c.write_round.new.seat c.in-Some-ends_behind.ensures.nothing c.in-Ok.ensures.round) c.requires.may).idle

pub returns-in-Some-ends_behind-clause-again : goal.returns-in-Some-ends_behind-clause-again
returns-in-Some-ends_behind-clause-again g c = (left g.D.Disk.is_honest g.D.Disk.state g.D.Disk.faults (table_of c.args.store.now.turn) g.D.Disk.remembers g.D.Disk.clock c.args.phase c.number.result c.args.seat.now c.rounds.seat c.write_round.new.seat c.rounds.invariant.passes c.number.ensures (Ok c.in-Some-ends_behind.ended) (last_none (WritesRound g.D.Disk.is_honest g.D.Disk.state g.D.Disk.faults (table_of c.args.store.now.turn) g.D.Disk.remembers g.D.Disk.clock (worker c.args.phase c.number.result)) c.in-Ok.more c.rounds.seat c.write_round.new.seat c.in-Some-ends_behind.ensures.nothing c.in-Ok.ensures.round) c.requires.may).again

pub returns-in-Some-ends_behind-clause-gives : goal.returns-in-Some-ends_behind-clause-gives
returns-in-Some-ends_behind-clause-gives g c = gives_so g.D.Disk.is_honest g.D.Disk.state g.D.Disk.faults (table_of c.args.store.now.turn) g.D.Disk.remembers g.D.Disk.clock c.args.phase c.number.result c.args.seat.now c.rounds.seat c.write_round.new.seat c.rounds.invariant.passes c.number.ensures (Ok c.in-Some-ends_behind.ended) (last_none (WritesRound g.D.Disk.is_honest g.D.Disk.state g.D.Disk.faults (table_of c.args.store.now.turn) g.D.Disk.remembers g.D.Disk.clock (worker c.args.phase c.number.result)) c.in-Ok.more c.rounds.seat c.write_round.new.seat c.in-Some-ends_behind.ensures.nothing c.in-Ok.ensures.round) c.requires.may

pub returns-in-Err-clause-rounds : goal.returns-in-Err-clause-rounds
returns-in-Err-clause-rounds g c = ends_with g.D.Disk.is_honest g.D.Disk.state g.D.Disk.faults (table_of c.args.store.now.turn) g.D.Disk.remembers g.D.Disk.clock c.args.phase c.number.result c.args.seat.now c.rounds.seat c.write_round.new.seat c.rounds.invariant.passes c.number.ensures (Err c.in-Err.why) c.in-Err.ensures.round c.args.done.now.flag.id c.rounds.idle c.rounds.invariant.few c.rounds.invariant.answered tt

pub returns-in-Err-clause-cause : goal.returns-in-Err-clause-cause
returns-in-Err-clause-cause g c = (left g.D.Disk.is_honest g.D.Disk.state g.D.Disk.faults (table_of c.args.store.now.turn) g.D.Disk.remembers g.D.Disk.clock c.args.phase c.number.result c.args.seat.now c.rounds.seat c.write_round.new.seat c.rounds.invariant.passes c.number.ensures (Err c.in-Err.why) c.in-Err.ensures.round c.requires.may).cause

pub returns-in-Err-clause-lines : goal.returns-in-Err-clause-lines
returns-in-Err-clause-lines g c = (left g.D.Disk.is_honest g.D.Disk.state g.D.Disk.faults (table_of c.args.store.now.turn) g.D.Disk.remembers g.D.Disk.clock c.args.phase c.number.result c.args.seat.now c.rounds.seat c.write_round.new.seat c.rounds.invariant.passes c.number.ensures (Err c.in-Err.why) c.in-Err.ensures.round c.requires.may).lines

pub returns-in-Err-clause-idle : goal.returns-in-Err-clause-idle
returns-in-Err-clause-idle g c = (left g.D.Disk.is_honest g.D.Disk.state g.D.Disk.faults (table_of c.args.store.now.turn) g.D.Disk.remembers g.D.Disk.clock c.args.phase c.number.result c.args.seat.now c.rounds.seat c.write_round.new.seat c.rounds.invariant.passes c.number.ensures (Err c.in-Err.why) c.in-Err.ensures.round c.requires.may).idle

pub returns-in-Err-clause-again : goal.returns-in-Err-clause-again
returns-in-Err-clause-again g c = (left g.D.Disk.is_honest g.D.Disk.state g.D.Disk.faults (table_of c.args.store.now.turn) g.D.Disk.remembers g.D.Disk.clock c.args.phase c.number.result c.args.seat.now c.rounds.seat c.write_round.new.seat c.rounds.invariant.passes c.number.ensures (Err c.in-Err.why) c.in-Err.ensures.round c.requires.may).again

pub returns-in-Err-clause-gives : goal.returns-in-Err-clause-gives
returns-in-Err-clause-gives g c = gives_so g.D.Disk.is_honest g.D.Disk.state g.D.Disk.faults (table_of c.args.store.now.turn) g.D.Disk.remembers g.D.Disk.clock c.args.phase c.number.result c.args.seat.now c.rounds.seat c.write_round.new.seat c.rounds.invariant.passes c.number.ensures (Err c.in-Err.why) c.in-Err.ensures.round c.requires.may
