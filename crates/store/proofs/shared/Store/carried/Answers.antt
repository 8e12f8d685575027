use Rattle.std.proofs.Common.{subst, sym}
use Rattle.store.specs.Carrying.{IsBatchIn}
use Rattle.store.proofs.Passing.{batch_at_on, batch_here, may_carry, may_leave_vault, passes_vault}
use Rattle.store.proofs.shared.Store.carried.Goals as goal

pub carry-answer-requires : goal.carry-answer-requires
carry-answer-requires g c = record { may = may_carry g.D.Disk.is_honest g.D.Disk.state g.D.Disk.faults _ c.args.seat.now c.enter_vault-archive.new.seat c.enter_vault-archive.result c.enter_vault-archive.ensures c.args.batch.now c.requires.batch }

pub leave_vault-requires : goal.leave_vault-requires
leave_vault-requires g c = (c.args.seat.now, c.enter_vault-archive.result, c.enter_vault-archive.ensures, may_leave_vault g.D.Disk.is_honest g.D.Disk.state g.D.Disk.faults _ c.args.seat.now c.enter_vault-archive.new.seat c.enter_vault-archive.result c.enter_vault-archive.ensures c.args.batch.now c.requires.batch g.D.Disk.remembers g.D.Disk.clock c.carry-answer.new.archive c.carry-answer.result c.carry-answer.ensures.carries)

pub returns-clause-passes : goal.returns-clause-passes
returns-clause-passes g c = passes_vault g.D.Disk.is_honest g.D.Disk.state g.D.Disk.faults _ c.args.seat.now c.leave_vault.new.seat c.enter_vault-archive.result c.carry-answer.new.archive (c.leave_vault.ensures.visited c.args.seat.now c.enter_vault-archive.result c.enter_vault-archive.ensures)

pub returns-clause-batch : goal.returns-clause-batch
returns-clause-batch g c =
    let v = c.leave_vault.ensures.visited c.args.seat.now c.enter_vault-archive.result c.enter_vault-archive.ensures in
    batch_at_on g.D.Disk.is_honest g.D.Disk.state c.args.seat.now c.leave_vault.new.seat c.args.batch.now v.same.opening v.waits v.rises v.sound c.requires.batch

pub returns-clause-carries : goal.returns-clause-carries
returns-clause-carries g c = record {
  before = c.enter_vault-archive.result;
  after = c.carry-answer.new.archive;
  visited = c.leave_vault.ensures.visited c.args.seat.now c.enter_vault-archive.result c.enter_vault-archive.ensures;
  is_batch = λ start is. subst (λ l. IsBatchIn g.D.Disk.is_honest g.D.Disk.state start l c.enter_vault-archive.result.side.held c.args.batch.now) (sym c.leave_vault.ensures.seen)
      (batch_here g.D.Disk.is_honest g.D.Disk.state g.D.Disk.faults _ c.args.seat.now c.enter_vault-archive.new.seat c.enter_vault-archive.result c.enter_vault-archive.ensures c.args.batch.now c.requires.batch start is);
  carries = c.carry-answer.ensures.carries;
}
