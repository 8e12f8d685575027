use Rattle.std.proofs.Common.{◌∙◌, ap}
use Rattle.std.specs.Prelude.{is_some}
use Rattle.history.specs.History.{now}
use Rattle.desk.proofs.Sent.{fault_is}
use Rattle.desk.proofs.Steps.{desk_written, desk_write_failed, stops_behind}
use Rattle.desk.proofs.desk.RunningDesk.send.Goals as goal

pub returns-in-Ok-clause-done : goal.returns-in-Ok-clause-done
returns-in-Ok-clause-done g c = λ desk need is.
    desk_written g.D.Disk.is_honest g.D.Disk.state c.args.self.now desk is c.write_back.new.self c.args.page need (c.in-Ok.ensures.done (now desk.history).pages desk.pages desk.loose desk.dirty is.pages) c.write_back.ensures.same.blocks c.write_back.ensures.same.honest.1

pub returns-in-Ok-clause-any_moment : goal.returns-in-Ok-clause-any_moment
returns-in-Ok-clause-any_moment g c = λ desk need left is told. c.write_back.ensures.any_moment (now desk.history).pages desk.pages desk.loose desk.dirty left told is.pages

pub returns-in-Err-clause-failed : goal.returns-in-Err-clause-failed
returns-in-Err-clause-failed g c = λ desk need is.
    let left = c.in-Err.ensures.failed (now desk.history).pages desk.pages desk.loose desk.dirty is.pages in (
      left.0,
      desk_write_failed g.D.Disk.is_honest g.D.Disk.state c.args.self.now desk is c.write_back.new.self c.stop_behind-self.result c.args.page need left.0 left.1 c.write_back.ensures.same.blocks c.write_back.ensures.same.honest.1
          (ap (λ o. is_some o) c.stop_behind-self.ensures ∙ stops_behind c.args.self.now.stop c.in-Err.why (fault_is _ _ _ c.in-Err.why c.in-Err.ensures.cause)),
    )

pub returns-in-Err-clause-any_moment : goal.returns-in-Err-clause-any_moment
returns-in-Err-clause-any_moment g c = λ desk need left is told. c.write_back.ensures.any_moment (now desk.history).pages desk.pages desk.loose desk.dirty left told is.pages
