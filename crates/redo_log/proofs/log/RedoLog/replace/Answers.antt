use Rattle.std.proofs.Common.{ℕ, sym, subst}
use Rattle.retro_base.specs.declared.device.Device.{Device}
use Rattle.retro_base.specs.declared.limits.TheConstants.{LOG_REGION_BYTES}
use Rattle.gate_log.specs.Cause.{Fit, IsFillRefusal}
use Rattle.area_log.specs.Cause.{IsWriteRefusal}
use Rattle.redo_log.proofs.Logs.{listed_version, own_version, writes_log}
use Rattle.redo_log.proofs.log.RedoLog.replace.Goals as goal

pub returns-in-Ok-clause-cause : goal.returns-in-Ok-clause-cause
returns-in-Ok-clause-cause g c =
    rw (← c.self.view_is)
    (let was = c.in-Ok.ensures.cause in (was.0, subst (λ (n : ℕ). Fit n c.args.bodies.now) c.self.invariant.size was.1, was.2))

pub returns-in-Ok-clause-writes : goal.returns-in-Ok-clause-writes
returns-in-Ok-clause-writes g c =
    rw (← c.self.view_is)
    (λ log after honest keeps stands. writes_log g.D.Disk.remembers g.D.Disk.state g.D.Disk.clock c.args.disk.now c.replace.new.disk c.self.inside.log c.replace.new.self c.args.version c.self.inside.version c.self.invariant.size (λ _. c.args.bodies.now) log after
    keeps.bodies _ keeps.stands keeps.holds (own_version c.args.version c.args.bodies.now after stands) (sym (listed_version c.args.version c.args.bodies.now after stands)) (c.in-Ok.ensures.writes honest))

pub returns-in-Err-clause-cause : goal.returns-in-Err-clause-cause
returns-in-Err-clause-cause g c =
    rw (← c.self.view_is)
    (let before = g.D.Disk.faults c.args.disk.now in
    let now = g.D.Disk.faults c.replace.new.disk in
    let area = c.self.inside.log in
    let at_size = subst (λ (n : ℕ). IsWriteRefusal area (IsFillRefusal n c.args.bodies.now area.log.device before now) before now c.in-Err.refusal) c.self.invariant.size c.in-Err.ensures.cause in
    subst (λ (d : Device). IsWriteRefusal area (IsFillRefusal LOG_REGION_BYTES c.args.bodies.now d before now) before now c.in-Err.refusal) c.self.invariant.device at_size)

pub returns-in-Err-clause-writes : goal.returns-in-Err-clause-writes
returns-in-Err-clause-writes g c =
    rw (← c.self.view_is)
    (λ log after honest keeps stands. writes_log g.D.Disk.remembers g.D.Disk.state g.D.Disk.clock c.args.disk.now c.replace.new.disk c.self.inside.log c.replace.new.self c.self.inside.version c.self.inside.version c.self.invariant.size (λ _. c.args.bodies.now) log after
    keeps.bodies _ keeps.stands keeps.holds (own_version c.args.version c.args.bodies.now after stands) tt (c.in-Err.ensures.writes honest))
