use Rattle.std.proofs.Common.{subst, sym}
use Rattle.race_model.specs.Vault.{Batch}
use Rattle.turn.specs.Tables.{table_of}
use Rattle.store.specs.declared.pace.Worker.{Worker}
use Rattle.store.specs.WorkerRounds.{Copies, EndsWith, Ran, WorkerEnds, worker}
use Rattle.store.proofs.worker.run.Goals as goal

pub returns-in_ok-batch-in-Copier-clause-ends : goal.returns-in_ok-batch-in-Copier-clause-ends
returns-in_ok-batch-in-Copier-clause-ends g c =
    let e = c.copier.ensures in
    let z = table_of c.args.store.now.turn in
    let who = worker c.args.phase c.args.seat.now.number in
    subst (λ (kind : Worker). WorkerEnds g.D.Disk.is_honest g.D.Disk.state g.D.Disk.faults z g.D.Disk.remembers g.D.Disk.clock who c.args.done.now.flag.id kind c.copier.result c.args.seat.now c.copier.new.seat) (sym c.in-Copier.is)
    (Ran c.copier.new.batch (subst (λ (b : Batch). EndsWith (Copies g.D.Disk.is_honest g.D.Disk.state g.D.Disk.faults z g.D.Disk.remembers g.D.Disk.clock who) c.args.done.now.flag.id c.copier.result (b, c.args.seat.now) (c.copier.new.batch, c.copier.new.seat)) c.in_ok-batch-in-Copier.ensures.batch e.rounds) e.all_held)
