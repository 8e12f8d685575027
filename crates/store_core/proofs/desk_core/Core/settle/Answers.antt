use Rattle.std.proofs.Common.{◌∙◌, refl, sym, subst}
use Rattle.block_file.specs.Blocks.{File, IsAsLong}
use Rattle.disk_model.specs.Moments.{LeavesOnly}
use Rattle.retro_base.specs.Cause.{IsFault}
use Rattle.retro_base.specs.declared.device.Device.TheVariants.{Pages}
use Rattle.history.specs.declared.journal.FailedCall.TheVariants.{Write}
use Rattle.history.specs.declared.journal.What.TheVariants as whats
use Rattle.race_model.specs.Machine.{settled, stopped}
use Rattle.race_model.proofs.DeskKeeps.{settle_keeps, stop_keeps}
use Rattle.desk.proofs.Steps.{going}
use Rattle.txn_set.specs.Ledger.{line_of}
use Rattle.store_core.proofs.Cores.{doubt_stays}
use Rattle.store_core.proofs.Faulted.{core_fails, core_step, was_going}
use Rattle.store_core.proofs.desk_core.Core.settle.Goals as goal

pub returns-in-Ok-clause-done : goal.returns-in-Ok-clause-done
returns-in-Ok-clause-done g c = λ opening plain is.
    core_step g.D.Disk.is_honest g.D.Disk.state opening c.args.self.now plain is c.settle.new.self (settled plain) (c.in-Ok.ensures.done plain is.is)
    (settle_keeps plain is.fits (going c.args.self.now.desk.stop plain.stopped is.is.stopped c.in-Ok.ensures.cause.0)) refl c.settle.ensures.held c.in-Ok.ensures.stop c.settle.ensures.rest.2 is.doubt

pub returns-in-Err-clause-untouched : goal.returns-in-Err-clause-untouched
returns-in-Err-clause-untouched g c = λ other. c.record.ensures.untouched other ∙ c.in-Err.ensures.untouched other

pub returns-in-Err-clause-failed : goal.returns-in-Err-clause-failed
returns-in-Err-clause-failed g c = λ opening plain is fault.
    core_fails g.D.Disk.is_honest g.D.Disk.state opening c.args.self.now plain is c.settle.new.self c.record.new.self.desk (stopped plain) c.args.who Write c.in-Err.why c.record.new.self.ledger fault refl c.requires.place.0 c.requires.place.1
    (was_going c.args.self.now.desk.stop (IsFault Pages (g.D.Disk.faults c.args.self.now.desk.pool.file.disk) (g.D.Disk.faults c.settle.new.self.pool.file.disk)) c.in-Err.why fault c.in-Err.ensures.cause).0 c.in-Err.ensures.stop c.settle.ensures.rest.2 c.settle.ensures.held c.record.ensures.rest c.record.ensures.held c.record.ensures.ledger c.record.ensures.works
    (c.record.ensures.desk (stopped plain) (c.in-Err.ensures.failed plain is.is fault)) (stop_keeps plain is.fits) refl
    (λ device count. doubt_stays g.D.Disk.is_honest g.D.Disk.state opening c.args.self.now plain is (stopped plain) (line_of c.args.who (whats.Fault device count Write)) refl)

pub returns-in-Err-clause-long : goal.returns-in-Err-clause-long
returns-in-Err-clause-long g c = λ told.
    subst (λ (f : File g.row.D.Denot). LeavesOnly g.D.Disk.remembers (g.D.Disk.clock c.args.self.now.desk.pool.file.disk) (g.D.Disk.clock f.disk) (IsAsLong (g.D.Disk.state c.args.self.now.desk.pool.file.disk)))
    (sym c.record.ensures.file) (c.settle.ensures.long told)
