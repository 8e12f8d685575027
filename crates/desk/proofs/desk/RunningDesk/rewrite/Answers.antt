use Rattle.std.proofs.Common.{◌∙◌, ap, subst, sym, refl, true, false}
use Rattle.std.specs.Prelude.{Some, is_some}
use Rattle.disk_model.specs.Moments.{LeavesOnly}
use Rattle.history.specs.declared.log.Log.{Log}
use Rattle.history.specs.declared.log.Version.{Version}
use Rattle.history.specs.Right.{IsBase}
use Rattle.records.specs.Entries.{BaseFits}
use Rattle.redo_log.specs.Redo.{ListsOneOf}
use Rattle.redo_log.specs.Side.{IsLogSide}
use Rattle.race_model.specs.Machine.{cut}
use Rattle.retro_base.specs.declared.device.Device.TheVariants.{Log as OfLog}
use Rattle.desk.specs.Desk.{log_of, other_log}
use Rattle.desk.proofs.Sent.{alone_is, cut_refused}
use Rattle.desk.proofs.Steps.{desk_cut, desk_cut_failed, desk_same, going, log_rests, no_stop, on_side, stops_behind}
use Rattle.desk.proofs.desk.RunningDesk.rewrite.Goals as goal

pub returns-in_err-base-clause-any_moment : goal.returns-in_err-base-clause-any_moment
returns-in_err-base-clause-any_moment g c = λ desk is f told.
    log_rests g.D.Disk.is_honest g.D.Disk.remembers g.D.Disk.state g.D.Disk.clock c.args.self.now desk is f _ (going c.args.self.now.stop desk.stopped is.stopped c.requires.goes) told (λ image left. g.met.D.Disk.only_now c.args.self.now.log.disk image told left)

pub cut-requires-clause-right : goal.cut-requires-clause-right
cut-requires-clause-right g c = subst IsBase (sym (c.in_ok-base.ensures ∙ c.requires.whole.is.base)) c.requires.whole.fits.history.right

pub cut-requires-clause-fits : goal.cut-requires-clause-fits
cut-requires-clause-fits g c =
    subst (λ (v : Version). BaseFits v c.in_ok-base.base) (sym (c.version.ensures ∙ c.requires.whole.is.version)) (subst (BaseFits c.requires.whole.desk.version) (sym c.in_ok-base.ensures) c.requires.whole.is.fits)

pub returns-in-Ok-clause-done : goal.returns-in-Ok-clause-done
returns-in-Ok-clause-done g c = λ desk is f.
    let honest = g.D.Disk.is_honest in
    let state = g.D.Disk.state in
    let old = c.args.self.now in
    let goes = going old.stop desk.stopped is.stopped c.requires.goes in
    let alone = alone_is c.version.result c.in_ok-base.base desk (c.version.ensures ∙ is.version) (c.in_ok-base.ensures ∙ is.base) in
    desk_cut honest state old desk is c.cut.new.self
    (subst (λ (l : Log). IsLogSide honest state c.cut.new.self l (other_log (cut desk) desk.doubt) false) alone
    (c.in-Ok.ensures.done (log_of desk) (other_log desk desk.doubt) (other_log (cut desk) desk.doubt) (on_side honest state old desk is goes)))
    goes (c.in-Ok.ensures.version ∙ c.version.ensures)

pub returns-in-Ok-clause-any_moment : goal.returns-in-Ok-clause-any_moment
returns-in-Ok-clause-any_moment g c = λ desk is f told.
    let old = c.args.self.now in
    subst (λ (l : Log). LeavesOnly g.D.Disk.remembers (g.D.Disk.clock old.log.disk) (g.D.Disk.clock c.cut.new.self.disk) (ListsOneOf (log_of desk) (Some l)))
    (alone_is c.version.result c.in_ok-base.base desk (c.version.ensures ∙ is.version) (c.in_ok-base.ensures ∙ is.base))
    (c.cut.ensures.any_moment (log_of desk) (other_log desk desk.doubt) told (on_side g.D.Disk.is_honest g.D.Disk.state old desk is (going old.stop desk.stopped is.stopped c.requires.goes)))

pub returns-clause-cause : goal.returns-clause-cause
returns-clause-cause g c =
    let whole = c.requires.whole in
    cut_refused c.args.self.now.log.log.area OfLog (g.D.Disk.faults c.args.self.now.log.disk) (g.D.Disk.faults c.cut.new.self.disk) c.in-Err.why
    (whole.is.log.going (going c.args.self.now.stop whole.desk.stopped whole.is.stopped c.requires.goes)) c.in-Err.ensures.cause

pub returns-clause-untouched : goal.returns-clause-untouched
returns-clause-untouched g c = λ none.
    let old = c.args.self.now in
    desk_same old c.cut.new.self old.queue c.stop_behind-self.result (c.in-Err.ensures.untouched none) refl (c.stop_behind-self.ensures ∙ no_stop old.stop c.in-Err.why none)

pub returns-clause-failed : goal.returns-clause-failed
returns-clause-failed g c = λ desk is f fault.
    let honest = g.D.Disk.is_honest in
    let state = g.D.Disk.state in
    let old = c.args.self.now in
    let alone = alone_is c.version.result c.in_ok-base.base desk (c.version.ensures ∙ is.version) (c.in_ok-base.ensures ∙ is.base) in
    desk_cut_failed honest state old desk is c.cut.new.self c.stop_behind-self.result
    (subst (λ (l : Log). IsLogSide honest state c.cut.new.self (log_of desk) (Some l) true) alone
    (c.in-Err.ensures.failed (log_of desk) (other_log desk desk.doubt) (on_side honest state old desk is (going old.stop desk.stopped is.stopped c.requires.goes)) fault))
    c.in-Err.ensures.version (ap (λ o. is_some o) c.stop_behind-self.ensures ∙ stops_behind old.stop c.in-Err.why fault)

pub returns-clause-any_moment : goal.returns-clause-any_moment
returns-clause-any_moment g c = λ desk is f told.
    let old = c.args.self.now in
    subst (λ (l : Log). LeavesOnly g.D.Disk.remembers (g.D.Disk.clock old.log.disk) (g.D.Disk.clock c.cut.new.self.disk) (ListsOneOf (log_of desk) (Some l)))
    (alone_is c.version.result c.in_ok-base.base desk (c.version.ensures ∙ is.version) (c.in_ok-base.ensures ∙ is.base))
    (c.cut.ensures.any_moment (log_of desk) (other_log desk desk.doubt) told (on_side g.D.Disk.is_honest g.D.Disk.state old desk is (going old.stop desk.stopped is.stopped c.requires.goes)))
