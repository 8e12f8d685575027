use Rattle.race_model.specs.Machine.{cut, cut_failed}
use Rattle.race_model.proofs.DeskKeeps.{cut_failed_keeps, cut_keeps}
use Rattle.desk.proofs.Steps.{going, is_none, log_rests}
use Rattle.desk.proofs.Whole.{whole_or}
use Rattle.desk.proofs.desk.RunningDesk.cut_log.Goals as goal

pub returns-then-not-is_clean-clause-any_moment : goal.returns-then-not-is_clean-clause-any_moment
returns-then-not-is_clean-clause-any_moment g c = λ desk is f goes told.
    log_rests g.D.Disk.is_honest g.D.Disk.remembers g.D.Disk.state g.D.Disk.clock c.args.self.now desk is f _ goes told (λ image left. g.met.D.Disk.only_now c.args.self.now.log.disk image told left)

pub returns-in-Ok-clause-whole : goal.returns-in-Ok-clause-whole
returns-in-Ok-clause-whole g c =
    let whole = c.requires.whole in
    let goes = going c.args.self.now.stop whole.desk.stopped whole.is.stopped (is_none c.args.self.now.stop c.in_default.not-Some) in
    let can = c.is_clean.ensures.clean whole.desk whole.is whole.fits goes c.if-not-is_clean.false in
    record { desk = cut whole.desk; is = c.in-Ok.ensures.done whole.desk whole.is whole.fits; fits = cut_keeps whole.desk whole.fits can }

pub returns-in-Err-clause-whole : goal.returns-in-Err-clause-whole
returns-in-Err-clause-whole g c =
    let whole = c.requires.whole in
    let goes = going c.args.self.now.stop whole.desk.stopped whole.is.stopped (is_none c.args.self.now.stop c.in_default.not-Some) in
    let can = c.is_clean.ensures.clean whole.desk whole.is whole.fits goes c.if-not-is_clean.false in
    whole_or g.D.Disk.is_honest g.D.Disk.state c.args.self.now _ whole c.in-Err.why (cut_failed whole.desk) (c.in-Err.ensures.failed whole.desk whole.is whole.fits) (cut_failed_keeps whole.desk whole.fits can) c.in-Err.ensures.untouched
