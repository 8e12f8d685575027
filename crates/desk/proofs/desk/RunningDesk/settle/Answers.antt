use Rattle.std.proofs.Common.{◌∙◌, ap}
use Rattle.std.specs.Prelude.{is_some}
use Rattle.history.specs.History.{now}
use Rattle.race_model.specs.Machine.{settled, stopped}
use Rattle.race_model.proofs.DeskKeeps.{settle_keeps, stop_keeps}
use Rattle.desk.proofs.Sent.{fault_is, pages_rest}
use Rattle.desk.proofs.Steps.{desk_settled, desk_stopped, going, is_none, stops_behind}
use Rattle.block_file.proofs.Blocks.{rests_long}
use Rattle.desk.proofs.desk.RunningDesk.settle.Goals as goal

pub returns-in-Some-clause-any_moment : goal.returns-in-Some-clause-any_moment
returns-in-Some-clause-any_moment g c = λ desk is told.
    pages_rest g.D.Disk.is_honest g.D.Disk.remembers g.D.Disk.state g.D.Disk.clock c.args.self.now desk is told (λ image left. g.met.D.Disk.only_now c.args.self.now.pool.file.disk image told left)

pub returns-in-Ok-clause-whole : goal.returns-in-Ok-clause-whole
returns-in-Ok-clause-whole g c =
    let whole = c.requires.whole in
    let desk = whole.desk in
    let goes = going c.args.self.now.stop desk.stopped whole.is.stopped (is_none c.args.self.now.stop c.in_default.not-Some) in
    record {
      desk = settled desk;
      is = desk_settled g.D.Disk.is_honest g.D.Disk.state c.args.self.now desk whole.is c.settle.new.self (c.in-Ok.ensures.done (now desk.history).pages desk.pages desk.loose desk.dirty whole.is.pages) c.settle.ensures.same.blocks c.settle.ensures.same.honest.1;
      fits = settle_keeps desk whole.fits goes;
    }

pub returns-in-Err-clause-whole : goal.returns-in-Err-clause-whole
returns-in-Err-clause-whole g c =
    let whole = c.requires.whole in
    let desk = whole.desk in
    record {
      desk = stopped desk;
      is = desk_stopped g.D.Disk.is_honest g.D.Disk.state c.args.self.now desk whole.is c.settle.new.self c.stop_behind-self.result (c.in-Err.ensures.kept (now desk.history).pages desk.pages desk.loose desk.dirty whole.is.pages)
          c.settle.ensures.same.blocks c.settle.ensures.same.honest.1 (ap (λ o. is_some o) c.stop_behind-self.ensures ∙ stops_behind c.args.self.now.stop c.in-Err.why (fault_is _ _ _ c.in-Err.why c.in-Err.ensures.cause));
      fits = stop_keeps desk whole.fits;
    }

pub returns-in-Some-clause-long : goal.returns-in-Some-clause-long
returns-in-Some-clause-long g c = λ told. rests_long g.D.Disk.remembers g.D.Disk.state g.D.Disk.clock c.args.self.now.pool.file.disk (λ image left. g.met.D.Disk.only_now c.args.self.now.pool.file.disk image told left)
