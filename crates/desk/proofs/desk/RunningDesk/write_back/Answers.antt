use Rattle.std.proofs.Common.{◌∙◌, ℕ, refl, subst}
use Rattle.disk_model.specs.Moments.{LeavesOnly}
use Rattle.race_model.specs.Machine.{write_failed, written_desk}
use Rattle.race_model.proofs.DeskKeeps.{write_failed_keeps, write_keeps}
use Rattle.desk.specs.Desk.{HoldsPagesOf}
use Rattle.desk.proofs.Sent.{fault_is, least_of, may_write, one_least, passed_written, write_rests}
use Rattle.desk.proofs.Steps.{desk_passed, going, is_none}
use Rattle.block_file.proofs.Blocks.{rests_long}
use Rattle.desk.proofs.desk.RunningDesk.write_back.Goals as goal

pub returns-in-Some-clause-any_moment : goal.returns-in-Some-clause-any_moment
returns-in-Some-clause-any_moment g c = λ desk page need left is least told.
    write_rests g.D.Disk.is_honest g.D.Disk.remembers g.D.Disk.state g.D.Disk.clock c.args.self.now desk is told (λ image at. g.met.D.Disk.only_now c.args.self.now.pool.file.disk image told at) page need left

pub returns-in-Ok-clause-done : goal.returns-in-Ok-clause-done
returns-in-Ok-clause-done g c = λ desk is f e.
    let page = c.in-Some-next_writable.page in
    let found = c.in-Some-next_writable.ensures in
    let least = least_of g.D.Disk.is_honest g.D.Disk.state c.args.self.now desk is page found.0 found.1 found.2 in (
      page,
      least,
      may_write desk page f (going c.args.self.now.stop desk.stopped is.stopped (is_none c.args.self.now.stop c.in_default.not-Some)) least,
      λ need.
          let wrote = c.in-Ok.ensures.done desk need is in
          desk_passed g.D.Disk.is_honest g.D.Disk.state c.send.new.self (written_desk desk page need) _ wrote (passed_written desk page need c.first-first.result (c.first-first.ensures ∙ wrote.first) least),
    )

pub returns-in-Ok-clause-any_moment : goal.returns-in-Ok-clause-any_moment
returns-in-Ok-clause-any_moment g c = λ desk page need left is least told.
    let here = c.in-Some-next_writable.page in
    let found = c.in-Some-next_writable.ensures in
    subst (λ (p : ℕ). LeavesOnly g.D.Disk.remembers (g.D.Disk.clock c.args.self.now.pool.file.disk) (g.D.Disk.clock c.send.new.self.pool.file.disk) (HoldsPagesOf (write_failed desk p need left)))
    (one_least desk here page (least_of g.D.Disk.is_honest g.D.Disk.state c.args.self.now desk is here found.0 found.1 found.2) least) (c.send.ensures.any_moment desk need left is told)

pub returns-in-Err-clause-failed : goal.returns-in-Err-clause-failed
returns-in-Err-clause-failed g c = λ desk need is f fault.
    let page = c.in-Some-next_writable.page in
    let found = c.in-Some-next_writable.ensures in
    let least = least_of g.D.Disk.is_honest g.D.Disk.state c.args.self.now desk is page found.0 found.1 found.2 in
    let left = c.in-Err.ensures.failed desk need is in
    (page, left.0, least, may_write desk page f (going c.args.self.now.stop desk.stopped is.stopped (is_none c.args.self.now.stop c.in_default.not-Some)) least, left.1)

pub returns-in-Err-clause-any_moment : goal.returns-in-Err-clause-any_moment
returns-in-Err-clause-any_moment g c = λ desk page need left is least told.
    let here = c.in-Some-next_writable.page in
    let found = c.in-Some-next_writable.ensures in
    subst (λ (p : ℕ). LeavesOnly g.D.Disk.remembers (g.D.Disk.clock c.args.self.now.pool.file.disk) (g.D.Disk.clock c.send.new.self.pool.file.disk) (HoldsPagesOf (write_failed desk p need left)))
    (one_least desk here page (least_of g.D.Disk.is_honest g.D.Disk.state c.args.self.now desk is here found.0 found.1 found.2) least) (c.send.ensures.any_moment desk need left is told)

pub returns-in-Ok-clause-whole : goal.returns-in-Ok-clause-whole
returns-in-Ok-clause-whole g c =
    let whole = c.requires.whole in
    let done = returns-in-Ok-clause-done g c whole.desk whole.is whole.fits refl in
    record { desk = written_desk whole.desk done.0 whole.desk.acked; is = done.3 whole.desk.acked; fits = write_keeps whole.desk whole.fits done.0 whole.desk.acked done.2 }

pub returns-in-Err-clause-whole : goal.returns-in-Err-clause-whole
returns-in-Err-clause-whole g c =
    let whole = c.requires.whole in
    let failed = returns-in-Err-clause-failed g c whole.desk whole.desk.acked whole.is whole.fits (fault_is _ _ _ c.in-Err.why c.in-Err.ensures.cause) in
    record { desk = write_failed whole.desk failed.0 whole.desk.acked failed.1; is = failed.4; fits = write_failed_keeps whole.desk whole.fits failed.0 whole.desk.acked failed.1 failed.3 }

pub returns-in-Some-clause-long : goal.returns-in-Some-clause-long
returns-in-Some-clause-long g c = λ told. rests_long g.D.Disk.remembers g.D.Disk.state g.D.Disk.clock c.args.self.now.pool.file.disk (λ image left. g.met.D.Disk.only_now c.args.self.now.pool.file.disk image told left)

pub returns-in-None-clause-long : goal.returns-in-None-clause-long
returns-in-None-clause-long g c = λ told. rests_long g.D.Disk.remembers g.D.Disk.state g.D.Disk.clock c.args.self.now.pool.file.disk (λ image left. g.met.D.Disk.only_now c.args.self.now.pool.file.disk image told left)
