use Rattle.std.proofs.Common.{◌∙◌, ℕ, List, length, sym, ap, subst}
use Rattle.std.specs.Prelude.{is_some}
use Rattle.area_log.specs.Cause.{IsWriteRefusal}
use Rattle.gate_log.specs.Cause.{IsAppendRefusal}
use Rattle.history.specs.declared.entry.Change.{Change}
use Rattle.history.specs.declared.writes.PageImage.{PageImage}
use Rattle.history.specs.Writes.{is_among, pages_of}
use Rattle.history.specs.History.{now}
use Rattle.copy_queue.specs.Pending.{Pending}
use Rattle.race_model.specs.Machine.{change_failed, changed}
use Rattle.race_model.proofs.DeskKeeps.{change_failed_keeps, change_keeps}
use Rattle.desk.specs.Desk.{IsDesk, IsWhole, log_of, other_log}
use Rattle.desk.proofs.Steps.{at_change, captures_at, change_body, change_refused, desk_changed, desk_change_failed, desk_same, entry_fits, entry_right, is_none, log_rests, more_images, more_pages, no_fault, no_stop, on_side, pages_at, queue_room, same_change, stops_behind, taken_back}
use Rattle.desk.proofs.Whole.{change_of, whole_or}
use Rattle.desk.proofs.desk.RunningDesk.change.Goals as goal

pub returns-in_err-framed-clause-any_moment : goal.returns-in_err-framed-clause-any_moment
returns-in_err-framed-clause-any_moment g c = λ desk change of told.
    log_rests g.D.Disk.is_honest g.D.Disk.remembers g.D.Disk.state g.D.Disk.clock c.args.self.now desk of.is of.fits _ of.goes told (λ image left. g.met.D.Disk.only_now c.args.self.now.log.disk image told left)

pub returns-in_err-plan-clause-any_moment : goal.returns-in_err-plan-clause-any_moment
returns-in_err-plan-clause-any_moment g c = λ desk change of told.
    log_rests g.D.Disk.is_honest g.D.Disk.remembers g.D.Disk.state g.D.Disk.clock c.args.self.now desk of.is of.fits _ of.goes told (λ image left. g.met.D.Disk.only_now c.args.self.now.log.disk image told left)

pub returns-in_err-add-clause-any_moment : goal.returns-in_err-add-clause-any_moment
returns-in_err-add-clause-any_moment g c = λ desk change of told.
    log_rests g.D.Disk.is_honest g.D.Disk.remembers g.D.Disk.state g.D.Disk.clock c.args.self.now desk of.is of.fits _ of.goes told (λ image left. g.met.D.Disk.only_now c.args.self.now.log.disk image told left)

pub add-requires : goal.add-requires
add-requires g c =
    queue_room g.D.Disk.is_honest g.D.Disk.state c.args.self.now c.in-Change.change c.deref.result.now c.requires.whole (entry_right c.args.self.now.base c.args.entry.now c.in-Change.change c.in-Change.is c.requires.right)
    (ap pages_of c.deref.ensures.value ∙ c.in_ok-plan.ensures.pages)

pub returns-in-Ok-clause-done : goal.returns-in-Ok-clause-done
returns-in-Ok-clause-done g c = λ desk change of.
    let honest = g.D.Disk.is_honest in
    let state = g.D.Disk.state in
    let old = c.args.self.now in
    let here = c.in-Change.change in
    let follows = at_change here change desk (sym c.in-Change.is ∙ of.spells) of.follows in
    subst (λ (x : Change). IsDesk honest state (record { log = c.change.new.self; pool = c.enter.new.pool; queue = c.add.new.self; base = c.enter.new.base; stop = old.stop; passed = record { page = c.lowered-self.result; first = old.passed.first } }) (changed desk x)) (same_change here change (sym c.in-Change.is ∙ of.spells))
    (desk_changed honest state old desk of.is of.fits c.change.new.self c.enter.new.pool c.add.new.self c.enter.new.base here follows
    (entry_fits old.log.log.version desk.version c.args.entry.now here of.is.version c.in-Change.is c.requires.fits)
    (c.in-Ok.ensures.done (log_of desk) (other_log desk desk.doubt) (other_log (changed desk here) desk.doubt) here (on_side honest state old desk of.is of.goes)
    (change_body desk old.log.log.version here c.args.entry.now c.in_ok-framed.framed of.fits follows c.in-Change.is c.in_ok-framed.ensures.bytes c.requires.fits))
    of.goes c.change.ensures.version c.enter.ensures.file
    (c.enter.ensures.pages (now desk.history).pages desk.pages desk.loose desk.dirty of.is.pages)
    (ap (λ (q : Pending). q.first) c.in_ok-add.ensures.done)
    (more_pages old.queue c.add.new.self c.deref.result.now _ c.in_ok-add.ensures.done (ap pages_of c.deref.ensures.value ∙ c.in_ok-plan.ensures.pages ∙ pages_at (now desk.history) old.base here of.is.base))
    (λ told. more_images old.queue c.add.new.self c.deref.result.now _ c.in_ok-add.ensures.done
    (c.deref.ensures.value ∙ c.in_ok-plan.ensures.bytes (now desk.history).pages desk.pages desk.loose desk.dirty of.is.pages told ∙ captures_at (now desk.history) old.base here of.is.base))
    c.enter.ensures.base c.lowered-self.result c.lowered-self.ensures.less (λ page lt wrote. c.lowered-self.ensures.waits page lt (ap (λ (l : List PageImage). is_among page (pages_of l)) c.writes_of.ensures ∙ wrote)))

pub returns-in-Ok-clause-any_moment : goal.returns-in-Ok-clause-any_moment
returns-in-Ok-clause-any_moment g c = λ desk change of told.
    c.change.ensures.any_moment (log_of desk) (other_log desk desk.doubt) change told (on_side g.D.Disk.is_honest g.D.Disk.state c.args.self.now desk of.is of.goes)
    (change_body desk c.args.self.now.log.log.version change c.args.entry.now c.in_ok-framed.framed of.fits of.follows of.spells c.in_ok-framed.ensures.bytes c.requires.fits)

pub returns-clause-cause : goal.returns-clause-cause
returns-clause-cause g c =
    let old = c.args.self.now in
    let before = g.D.Disk.faults old.log.disk in
    let after = g.D.Disk.faults c.change.new.self.disk in
    change_refused old.log.log.area old.stop _ before after c.in-Err.why (no_fault g.D.Disk.is_honest g.D.Disk.state old c.requires.whole c.in_default.not-Some) (is_none old.stop c.in_default.not-Some)
    (subst (λ (body : List ℕ). IsWriteRefusal old.log.log.area (IsAppendRefusal old.log.log.area.log (length body) before after) before after c.in-Err.why) c.in_ok-framed.ensures.bytes c.in-Err.ensures.cause)

pub returns-clause-failed : goal.returns-clause-failed
returns-clause-failed g c = λ desk change of fault.
    let honest = g.D.Disk.is_honest in
    let state = g.D.Disk.state in
    let old = c.args.self.now in
    desk_change_failed honest state old desk of.is c.change.new.self c.keep.new.self c.stop_behind-self.result change
    (c.in-Err.ensures.failed (log_of desk) (other_log desk desk.doubt) change (on_side honest state old desk of.is of.goes)
    (change_body desk old.log.log.version change c.args.entry.now c.in_ok-framed.framed of.fits of.follows of.spells c.in_ok-framed.ensures.bytes c.requires.fits) fault)
    c.change.ensures.version
    (taken_back old.queue c.add.new.self c.keep.new.self c.deref.result.now c.len-count.result c.len-count.ensures c.in_ok-add.ensures.done c.keep.ensures)
    (ap (λ o. is_some o) c.stop_behind-self.ensures ∙ stops_behind old.stop c.in-Err.why fault)

pub returns-clause-any_moment : goal.returns-clause-any_moment
returns-clause-any_moment g c = λ desk change of told.
    c.change.ensures.any_moment (log_of desk) (other_log desk desk.doubt) change told (on_side g.D.Disk.is_honest g.D.Disk.state c.args.self.now desk of.is of.goes)
    (change_body desk c.args.self.now.log.log.version change c.args.entry.now c.in_ok-framed.framed of.fits of.follows of.spells c.in_ok-framed.ensures.bytes c.requires.fits)

pub returns-clause-untouched : goal.returns-clause-untouched
returns-clause-untouched g c = λ none.
    let old = c.args.self.now in
    desk_same old c.change.new.self c.keep.new.self c.stop_behind-self.result (c.in-Err.ensures.untouched none)
    (taken_back old.queue c.add.new.self c.keep.new.self c.deref.result.now c.len-count.result c.len-count.ensures c.in_ok-add.ensures.done c.keep.ensures)
    (c.stop_behind-self.ensures ∙ no_stop old.stop c.in-Err.why none)

-- it is whole behind each outcome
pub returns-in_err-add-clause-whole : goal.returns-in_err-add-clause-whole
returns-in_err-add-clause-whole g c =
    subst (λ (q : Pending). IsWhole g.D.Disk.is_honest g.D.Disk.state (record { log = c.args.self.now.log; pool = c.args.self.now.pool; queue = q; base = c.args.self.now.base; stop = c.args.self.now.stop; passed = c.args.self.now.passed })) (sym c.in_err-add.ensures.untouched) c.requires.whole

pub returns-in-Ok-clause-whole : goal.returns-in-Ok-clause-whole
returns-in-Ok-clause-whole g c =
    let whole = c.requires.whole in
    let of = change_of g.D.Disk.is_honest g.D.Disk.state c.args.self.now c.args.entry.now c.in-Change.change whole (is_none c.args.self.now.stop c.in_default.not-Some) c.in-Change.is c.requires.right c.requires.fits in
    record { desk = changed whole.desk c.in-Change.change; is = returns-in-Ok-clause-done g c whole.desk c.in-Change.change of; fits = change_keeps whole.desk whole.fits c.in-Change.change of.goes of.follows }

pub returns-clause-whole : goal.returns-clause-whole
returns-clause-whole g c =
    let whole = c.requires.whole in
    let here = c.in-Change.change in
    let of = change_of g.D.Disk.is_honest g.D.Disk.state c.args.self.now c.args.entry.now here whole (is_none c.args.self.now.stop c.in_default.not-Some) c.in-Change.is c.requires.right c.requires.fits in
    whole_or g.D.Disk.is_honest g.D.Disk.state c.args.self.now _ whole c.in-Err.why (change_failed whole.desk here) (returns-clause-failed g c whole.desk here of) (change_failed_keeps whole.desk whole.fits here of.follows) (returns-clause-untouched g c)
