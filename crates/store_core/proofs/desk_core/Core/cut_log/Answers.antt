use Rattle.std.proofs.Common.{◌∙◌, refl, sym, ap, subst}
use Rattle.retro_base.specs.declared.device.Device.TheVariants.{Log}
use Rattle.history.specs.declared.journal.FailedCall.TheVariants.{Write}
use Rattle.race_model.specs.Machine.{cut, cut_failed}
use Rattle.race_model.proofs.DeskKeeps.{cut_keeps, cut_failed_keeps}
use Rattle.redo_log.specs.Cause.{IsMemoryOrFault}
use Rattle.redo_log.specs.Side.{LogSide}
use Rattle.desk.specs.declared.desk.RunningDesk.{RunningDesk}
use Rattle.desk.specs.Cause.{IsWriteRefusal}
use Rattle.page_pool.specs.Side.{Pool, held}
use Rattle.store_core.proofs.Faulted.{core_fails, core_step, was_going}
use Rattle.store_core.proofs.desk_core.Core.cut_log.Goals as goal

pub returns-in-Ok-clause-done : goal.returns-in-Ok-clause-done
returns-in-Ok-clause-done g c = λ opening plain is e.
    let found = c.in-Ok.ensures.done plain is.is is.fits e in (
      found.0,
      core_step g.D.Disk.is_honest g.D.Disk.state opening c.args.self.now plain is c.cut_log.new.self (cut plain) found.1 (cut_keeps plain is.fits found.0) refl
          (λ page. ap (λ (p : Pool g.row.D.Denot). held p page) c.cut_log.ensures.rest.0) c.in-Ok.ensures.stop c.cut_log.ensures.rest.2 is.doubt,
    )

pub returns-in-Err-clause-cause : goal.returns-in-Err-clause-cause
returns-in-Err-clause-cause g c =
    subst (λ (l : LogSide g.row.D.Denot). IsWriteRefusal c.args.self.now.desk.stop (IsMemoryOrFault Log (g.D.Disk.faults c.args.self.now.desk.log.disk) (g.D.Disk.faults l.disk)) c.in-Err.why)
    (sym (ap (λ (r : RunningDesk g.row.D.Denot). r.log) c.record.ensures.rest)) c.in-Err.ensures.cause

pub returns-in-Err-clause-untouched : goal.returns-in-Err-clause-untouched
returns-in-Err-clause-untouched g c = λ other. c.record.ensures.untouched other ∙ c.in-Err.ensures.untouched other

pub returns-in-Err-clause-failed : goal.returns-in-Err-clause-failed
returns-in-Err-clause-failed g c = λ opening plain is fault.
    let found = c.in-Err.ensures.failed plain is.is is.fits fault in (
      found.0,
      core_fails g.D.Disk.is_honest g.D.Disk.state opening c.args.self.now plain is c.cut_log.new.self c.record.new.self.desk (cut_failed plain) c.args.who Write c.in-Err.why c.record.new.self.ledger fault refl c.requires.place.0 c.requires.place.1
          (was_going c.args.self.now.desk.stop (IsMemoryOrFault Log (g.D.Disk.faults c.args.self.now.desk.log.disk) (g.D.Disk.faults c.cut_log.new.self.log.disk)) c.in-Err.why fault c.in-Err.ensures.cause).0 c.in-Err.ensures.stop c.cut_log.ensures.rest.2 (λ page. ap (λ (p : Pool g.row.D.Denot). held p page) c.cut_log.ensures.rest.0)
          c.record.ensures.rest c.record.ensures.held c.record.ensures.ledger c.record.ensures.works
          (c.record.ensures.desk (cut_failed plain) found.1) (cut_failed_keeps plain is.fits found.0) refl (λ device count. tt),
    )
