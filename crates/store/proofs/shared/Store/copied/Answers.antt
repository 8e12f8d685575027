use Rattle.std.proofs.Common.{Ok, Err, subst}
use Rattle.turn.specs.Tables.{table_of}
use Rattle.store.proofs.Copying.{In, leads_done, leads_laid, leads_none}
use Rattle.store.proofs.Passing.{passes_none, passes_on}
use Rattle.store.proofs.shared.Store.copied.Goals as goal

pub visit-init : goal.visit-init
visit-init g c = record {
  passes = passes_none (table_of c.args.self.now.turn) c.args.seat.now c.requires.ready;
  batch = c.requires.batch;
  leads = leads_none g.D.Disk.is_honest g.D.Disk.state g.D.Disk.faults (table_of c.args.self.now.turn) g.D.Disk.remembers g.D.Disk.clock c.args.batch.now c.args.seat.now;
}

pub visit-preserved : goal.visit-preserved
visit-preserved g c = record {
  passes = passes_on (table_of c.args.self.now.turn) c.args.seat.now c.visit.seat c.visit.invariant.passes c.carried.new.seat c.carried.ensures.passes;
  batch = c.carried.ensures.batch;
  leads = leads_laid g.D.Disk.is_honest g.D.Disk.state g.D.Disk.faults (table_of c.args.self.now.turn) g.D.Disk.remembers g.D.Disk.clock c.args.batch.now c.args.seat.now c.visit.seat c.carried.new.seat c.visit.invariant.leads
      (subst (λ x. In g.D.Disk.is_honest g.D.Disk.state g.D.Disk.faults (table_of c.args.self.now.turn) g.D.Disk.remembers g.D.Disk.clock c.args.batch.now (Ok x) c.visit.seat c.carried.new.seat) c.in-Ok-Laid.field-0-is c.in-Ok-Laid.ensures.carries);
}

pub returns-in-Ok-There-clause-carries : goal.returns-in-Ok-There-clause-carries
returns-in-Ok-There-clause-carries g c = leads_done g.D.Disk.is_honest g.D.Disk.state g.D.Disk.faults (table_of c.args.self.now.turn) g.D.Disk.remembers g.D.Disk.clock c.args.batch.now c.args.seat.now c.visit.seat c.carried.new.seat c.visit.invariant.leads (Ok _)
    (subst (λ x. In g.D.Disk.is_honest g.D.Disk.state g.D.Disk.faults (table_of c.args.self.now.turn) g.D.Disk.remembers g.D.Disk.clock c.args.batch.now (Ok x) c.visit.seat c.carried.new.seat) c.in-Ok-There.field-0-is c.in-Ok-There.ensures.carries) tt

pub returns-in-Ok-Entered-clause-carries : goal.returns-in-Ok-Entered-clause-carries
returns-in-Ok-Entered-clause-carries g c = leads_done g.D.Disk.is_honest g.D.Disk.state g.D.Disk.faults (table_of c.args.self.now.turn) g.D.Disk.remembers g.D.Disk.clock c.args.batch.now c.args.seat.now c.visit.seat c.carried.new.seat c.visit.invariant.leads (Ok _)
    (subst (λ x. In g.D.Disk.is_honest g.D.Disk.state g.D.Disk.faults (table_of c.args.self.now.turn) g.D.Disk.remembers g.D.Disk.clock c.args.batch.now (Ok x) c.visit.seat c.carried.new.seat) c.in-Ok-Entered.field-0-is c.in-Ok-Entered.ensures.carries) tt

pub returns-in-Err-clause-carries : goal.returns-in-Err-clause-carries
returns-in-Err-clause-carries g c = leads_done g.D.Disk.is_honest g.D.Disk.state g.D.Disk.faults (table_of c.args.self.now.turn) g.D.Disk.remembers g.D.Disk.clock c.args.batch.now c.args.seat.now c.visit.seat c.carried.new.seat c.visit.invariant.leads (Err c.in-Err.fault) c.in-Err.ensures.carries tt

pub returns-in-Ok-There-clause-passes : goal.returns-in-Ok-There-clause-passes
returns-in-Ok-There-clause-passes g c = passes_on (table_of c.args.self.now.turn) c.args.seat.now c.visit.seat c.visit.invariant.passes c.carried.new.seat c.carried.ensures.passes

pub returns-in-Ok-Entered-clause-passes : goal.returns-in-Ok-Entered-clause-passes
returns-in-Ok-Entered-clause-passes g c = passes_on (table_of c.args.self.now.turn) c.args.seat.now c.visit.seat c.visit.invariant.passes c.carried.new.seat c.carried.ensures.passes

pub returns-in-Err-clause-passes : goal.returns-in-Err-clause-passes
returns-in-Err-clause-passes g c = passes_on (table_of c.args.self.now.turn) c.args.seat.now c.visit.seat c.visit.invariant.passes c.carried.new.seat c.carried.ensures.passes
