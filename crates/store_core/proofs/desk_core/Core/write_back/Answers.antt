use Rattle.std.proofs.Common.{◌∙◌, refl, sym, subst}
use Rattle.block_file.specs.Blocks.{File, IsAsLong}
use Rattle.disk_model.specs.Moments.{LeavesOnly}
use Rattle.retro_base.specs.Cause.{IsFault}
use Rattle.retro_base.specs.declared.device.Device.TheVariants.{Pages}
use Rattle.history.specs.declared.journal.FailedCall.TheVariants.{Write}
use Rattle.history.specs.declared.journal.What.TheVariants as whats
use Rattle.race_model.specs.Machine.{write_failed, written_desk}
use Rattle.race_model.proofs.DeskKeeps.{write_keeps, write_failed_keeps}
use Rattle.desk.specs.Desk.{HoldsPagesOf}
use Rattle.txn_set.specs.Ledger.{line_of}
use Rattle.store_core.proofs.Cores.{doubt_stays}
use Rattle.store_core.proofs.Faulted.{core_fails, core_step, was_going}
use Rattle.store_core.proofs.desk_core.Core.write_back.Goals as goal

pub returns-in-Ok-clause-done : goal.returns-in-Ok-clause-done
returns-in-Ok-clause-done g c = λ opening plain is e.
    let found = c.in-Ok.ensures.done plain is.is is.fits e in (
      found.0,
      found.1,
      found.2,
      λ need may.
          core_step g.D.Disk.is_honest g.D.Disk.state opening c.args.self.now plain is c.write_back.new.self (written_desk plain found.0 need) (found.3 need) (write_keeps plain is.fits found.0 need may) refl
          c.write_back.ensures.held c.in-Ok.ensures.stop c.write_back.ensures.rest.2 is.doubt,
    )

pub returns-in-Ok-clause-any_moment : goal.returns-in-Ok-clause-any_moment
returns-in-Ok-clause-any_moment g c = λ opening plain page need left is least told. c.write_back.ensures.any_moment plain page need left is.is least told

pub returns-in-Err-clause-untouched : goal.returns-in-Err-clause-untouched
returns-in-Err-clause-untouched g c = λ other. c.record.ensures.untouched other ∙ c.in-Err.ensures.untouched other

pub returns-in-Err-clause-failed : goal.returns-in-Err-clause-failed
returns-in-Err-clause-failed g c = λ opening plain need is fault.
    let found = c.in-Err.ensures.failed plain need is.is is.fits fault in (
      found.0,
      found.1,
      found.2,
      found.3,
      λ may.
          core_fails g.D.Disk.is_honest g.D.Disk.state opening c.args.self.now plain is c.write_back.new.self c.record.new.self.desk (write_failed plain found.0 need found.1) c.args.who Write c.in-Err.why c.record.new.self.ledger fault refl c.requires.place.0 c.requires.place.1
          (was_going c.args.self.now.desk.stop (IsFault Pages (g.D.Disk.faults c.args.self.now.desk.pool.file.disk) (g.D.Disk.faults c.write_back.new.self.pool.file.disk)) c.in-Err.why fault c.in-Err.ensures.cause).0 c.in-Err.ensures.stop c.write_back.ensures.rest.2 c.write_back.ensures.held c.record.ensures.rest c.record.ensures.held c.record.ensures.ledger c.record.ensures.works
          (c.record.ensures.desk (write_failed plain found.0 need found.1) found.4) (write_failed_keeps plain is.fits found.0 need found.1 may) refl
          (λ device count. doubt_stays g.D.Disk.is_honest g.D.Disk.state opening c.args.self.now plain is (write_failed plain found.0 need found.1) (line_of c.args.who (whats.Fault device count Write)) refl),
    )

pub returns-in-Err-clause-any_moment : goal.returns-in-Err-clause-any_moment
returns-in-Err-clause-any_moment g c = λ opening plain page need left is least told.
    subst (λ (f : File g.row.D.Denot). LeavesOnly g.D.Disk.remembers (g.D.Disk.clock c.args.self.now.desk.pool.file.disk) (g.D.Disk.clock f.disk) (HoldsPagesOf (write_failed plain page need left)))
    (sym c.record.ensures.file) (c.write_back.ensures.any_moment plain page need left is.is least told)

pub returns-in-Err-clause-long : goal.returns-in-Err-clause-long
returns-in-Err-clause-long g c = λ told.
    subst (λ (f : File g.row.D.Denot). LeavesOnly g.D.Disk.remembers (g.D.Disk.clock c.args.self.now.desk.pool.file.disk) (g.D.Disk.clock f.disk) (IsAsLong (g.D.Disk.state c.args.self.now.desk.pool.file.disk)))
    (sym c.record.ensures.file) (c.write_back.ensures.long told)
