use Rattle.std.proofs.Common.{refl}
use Rattle.area_log.specs.Area.{appended}
use Rattle.gate_log.specs.Cause.{IsDiskFault}
use Rattle.redo_log.specs.Redo.{one_more}
use Rattle.redo_log.specs.Side.{LogSide}
use Rattle.redo_log.proofs.Sides.{call_done, call_failed, call_leaves}
use Rattle.redo_log.proofs.side.LogSide.change.Goals as goal

pub returns-clause-cause : goal.returns-clause-cause
returns-clause-cause g c = rw (← c.self.view_is) c.add.ensures.cause

pub returns-clause-done : goal.returns-clause-done
returns-clause-done g c =
    rw (← c.self.view_is)
    (λ sure before after change is more.
    let new : LogSide g.row.D.Denot = record { disk = c.add.new.disk; log = c.add.new.self } in
    call_done g.D.Disk.is_honest g.D.Disk.state g.D.Disk.remembers g.D.Disk.clock _ new c.add.result sure (one_more sure change) before is (λ told keeps. c.add.ensures.writes sure change told keeps more) (appended c.self.inside.log.area c.args.framed.now) after
    c.add.ensures.same.honest.1 c.add.ensures.log refl c.self.invariant.1)

pub returns-clause-failed : goal.returns-clause-failed
returns-clause-failed g c =
    rw (← c.self.view_is)
    (λ sure before change is more.
    let new : LogSide g.row.D.Denot = record { disk = c.add.new.disk; log = c.add.new.self } in
    call_failed g.D.Disk.is_honest g.D.Disk.state g.D.Disk.remembers g.D.Disk.clock _ new c.add.result sure (one_more sure change) before is (λ told keeps. c.add.ensures.writes sure change told keeps more) IsDiskFault c.add.ensures.same.honest.1
    (g.met.D.Disk.counts_now c.add.new.disk))

pub returns-clause-any_moment : goal.returns-clause-any_moment
returns-clause-any_moment g c =
    rw (← c.self.view_is)
    (λ sure before change told is more.
    let new : LogSide g.row.D.Denot = record { disk = c.add.new.disk; log = c.add.new.self } in
    call_leaves g.D.Disk.is_honest g.D.Disk.state g.D.Disk.remembers g.D.Disk.clock _ new c.add.result sure (one_more sure change) before is (λ told keeps. c.add.ensures.writes sure change told keeps more) told)
