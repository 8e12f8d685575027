use Rattle.std.proofs.Common.{◌∙◌, false, Ok, Err, ap, refl, subst, sym}
use Rattle.turn.specs.Tables.{table_of}
use Rattle.store.specs.Rounds.{HasRoom, MakesRound, NoBatch, NoRound}
use Rattle.store.proofs.Passing.{passes_none, passes_on, passes_whole, serve_on}
use Rattle.store.proofs.Rooming.{makes_again, makes_here, still_passes}
use Rattle.store.proofs.shared.Store.make_room.Goals as goal

pub returns-in-Err-clause-makes : goal.returns-in-Err-clause-makes
returns-in-Err-clause-makes g c = NoBatch c.args.seat.now (ap Err c.in-Err.ensures.memory)

pub rounds-init : goal.rounds-init
rounds-init g c = record { passes = passes_none (table_of c.args.self.now.turn) c.args.seat.now c.requires.ready.0; leads = makes_here g.D.Disk.is_honest g.D.Disk.state g.D.Disk.faults (table_of c.args.self.now.turn) g.D.Disk.remembers g.D.Disk.clock c.args.who c.args.bytes c.args.seat.now }

pub room_round-requires-clause-ready : goal.room_round-requires-clause-ready
room_round-requires-clause-ready g c = (c.rounds.invariant.passes.ready, passes_whole (table_of c.args.self.now.turn) c.args.seat.now c.rounds.seat c.rounds.invariant.passes c.requires.ready.1)

pub room_round-requires-clause-own : goal.room_round-requires-clause-own
room_round-requires-clause-own g c = c.requires.own ∙ sym c.rounds.invariant.passes.stays.same.number

pub room_round-requires-clause-serve : goal.room_round-requires-clause-serve
room_round-requires-clause-serve g c = serve_on (table_of c.args.self.now.turn) c.args.seat.now c.rounds.seat c.rounds.invariant.passes c.args.who c.requires.serve

pub returns-in-Ok-true-clause-makes : goal.returns-in-Ok-true-clause-makes
returns-in-Ok-true-clause-makes g c = c.rounds.invariant.leads (Ok tt) c.room_round.new.seat (HasRoom c.rounds.seat c.room_round.new.seat refl (subst (λ b. MakesRound g.D.Disk.is_honest g.D.Disk.state g.D.Disk.faults (table_of c.args.self.now.turn) g.D.Disk.remembers g.D.Disk.clock c.args.who c.args.bytes (Ok b) c.rounds.seat c.room_round.new.seat) c.in-Ok-true.field-0-test c.in-Ok-true.ensures.makes))

pub rounds-preserved : goal.rounds-preserved
rounds-preserved g c = record {
  passes = passes_on (table_of c.args.self.now.turn) c.args.seat.now c.rounds.seat c.rounds.invariant.passes c.room_round.new.seat (still_passes g.D.Disk.is_honest g.D.Disk.state g.D.Disk.faults (table_of c.args.self.now.turn) g.D.Disk.remembers g.D.Disk.clock c.args.who c.args.bytes false c.rounds.seat c.room_round.new.seat c.rounds.invariant.passes.ready (subst (λ b. MakesRound g.D.Disk.is_honest g.D.Disk.state g.D.Disk.faults (table_of c.args.self.now.turn) g.D.Disk.remembers g.D.Disk.clock c.args.who c.args.bytes (Ok b) c.rounds.seat c.room_round.new.seat) c.in-Ok-false.field-0-test c.in-Ok-false.ensures.makes));
  leads = makes_again g.D.Disk.is_honest g.D.Disk.state g.D.Disk.faults (table_of c.args.self.now.turn) g.D.Disk.remembers g.D.Disk.clock c.args.who c.args.bytes c.args.seat.now c.rounds.seat c.room_round.new.seat c.rounds.invariant.leads (subst (λ b. MakesRound g.D.Disk.is_honest g.D.Disk.state g.D.Disk.faults (table_of c.args.self.now.turn) g.D.Disk.remembers g.D.Disk.clock c.args.who c.args.bytes (Ok b) c.rounds.seat c.room_round.new.seat) c.in-Ok-false.field-0-test c.in-Ok-false.ensures.makes);
}

pub returns-in-Err-room_round-clause-makes : goal.returns-in-Err-room_round-clause-makes
returns-in-Err-room_round-clause-makes g c = c.rounds.invariant.leads (Err c.in-Err-room_round.why) c.room_round.new.seat (NoRound c.in-Err-room_round.why c.rounds.seat c.room_round.new.seat refl c.in-Err-room_round.ensures.makes)
