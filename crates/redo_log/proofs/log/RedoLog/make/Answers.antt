use Rattle.std.proofs.Common.{◌∙◌, ℕ, List, [], ◌∷◌, ◌/◌, ap, sym, subst}
use Rattle.retro_base.specs.declared.device.Device.TheVariants as kinds
use Rattle.gate_log.specs.Cause.{Fit}
use Rattle.redo_log.proofs.Causes.{made_with_room}
use Rattle.redo_log.proofs.Logs.{makes_log}
use Rattle.redo_log.proofs.Short.{always_room}
use Rattle.redo_log.proofs.log.RedoLog.make.Goals as goal

pub returns-clause-cause : goal.returns-clause-cause
returns-clause-cause g c =
    let half = g.D.Disk.extent c.args.disk.now / 2 in
    let room = subst (λ (b : List ℕ). Fit half (b ∷ [])) (sym c.in_ok-base_body.ensures.bytes) (always_room c.args.version c.args.base.now half (ap (λ (n : ℕ). n / 2) c.requires.whole) c.requires.fits c.requires.right) in
    made_with_room half (c.in_ok-base_body.field-0 ∷ []) room kinds.Log (g.D.Disk.faults c.args.disk.now) (g.D.Disk.faults c.make.new.disk) c.make.result c.make.ensures.cause

pub returns-clause-makes : goal.returns-clause-makes
returns-clause-makes g c = λ honest zeros.
    makes_log g.D.Disk.remembers g.D.Disk.state g.D.Disk.clock c.args.disk.now c.make.new.disk (g.D.Disk.extent c.args.disk.now) c.args.version c.args.base.now c.in_ok-base_body.field-0 c.make.result c.requires.whole c.in_ok-base_body.ensures.bytes
    c.requires.fits c.requires.right zeros (g.met.D.Disk.sized c.make.new.disk (c.make.ensures.same.honest.0 honest) ∙ c.make.ensures.same.size) (c.make.ensures.makes honest)
