use Rattle.std.proofs.Common.{refl, [], ◌∷◌}
use Rattle.area_log.specs.Area.{replaced}
use Rattle.gate_log.specs.Cause.{IsDiskFault}
use Rattle.records.specs.declared.entry.Entry.TheVariants as entries
use Rattle.records.specs.Entries.{entry_bytes}
use Rattle.redo_log.specs.Redo.{base_alone}
use Rattle.redo_log.specs.Side.{LogSide}
use Rattle.redo_log.proofs.Sides.{call_done, call_failed, call_leaves}
use Rattle.redo_log.proofs.side.LogSide.cut.Goals as goal

pub returns-clause-done : goal.returns-clause-done
returns-clause-done g c =
    rw (← c.self.view_is)
    (λ sure before after is.
    let new : LogSide g.row.D.Denot = record { disk = c.rewrite.new.disk; log = c.rewrite.new.self } in
    call_done g.D.Disk.is_honest g.D.Disk.state g.D.Disk.remembers g.D.Disk.clock _ new c.rewrite.result sure (base_alone c.args.version c.args.base.now) before is (λ told keeps. c.rewrite.ensures.writes sure told keeps)
    (replaced c.self.inside.log.area (entry_bytes c.args.version (entries.Base c.args.base.now) ∷ [])) after c.rewrite.ensures.same.honest.1 c.rewrite.ensures.log refl c.self.invariant.1)

pub returns-clause-failed : goal.returns-clause-failed
returns-clause-failed g c =
    rw (← c.self.view_is)
    (λ sure before is.
    let new : LogSide g.row.D.Denot = record { disk = c.rewrite.new.disk; log = c.rewrite.new.self } in
    call_failed g.D.Disk.is_honest g.D.Disk.state g.D.Disk.remembers g.D.Disk.clock _ new c.rewrite.result sure (base_alone c.args.version c.args.base.now) before is (λ told keeps. c.rewrite.ensures.writes sure told keeps) IsDiskFault
    c.rewrite.ensures.same.honest.1 (g.met.D.Disk.counts_now c.rewrite.new.disk))

pub returns-clause-any_moment : goal.returns-clause-any_moment
returns-clause-any_moment g c =
    rw (← c.self.view_is)
    (λ sure before told is.
    let new : LogSide g.row.D.Denot = record { disk = c.rewrite.new.disk; log = c.rewrite.new.self } in
    call_leaves g.D.Disk.is_honest g.D.Disk.state g.D.Disk.remembers g.D.Disk.clock _ new c.rewrite.result sure (base_alone c.args.version c.args.base.now) before is (λ told keeps. c.rewrite.ensures.writes sure told keeps) told)
