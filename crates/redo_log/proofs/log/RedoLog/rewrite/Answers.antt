use Rattle.std.proofs.Common.{List, ℕ, [], ◌∷◌, sym, subst, refl}
use Rattle.retro_base.specs.declared.device.Device.TheVariants as kinds
use Rattle.retro_base.specs.declared.limits.TheConstants.{LOG_REGION_BYTES}
use Rattle.gate_log.specs.Cause.{Fit}
use Rattle.redo_log.specs.Redo.{base_alone, IsRedo, Redo}
use Rattle.redo_log.proofs.Causes.{rewritten}
use Rattle.redo_log.proofs.Logs.{rests}
use Rattle.redo_log.proofs.Short.{always_room}
use Rattle.redo_log.proofs.log.RedoLog.rewrite.Goals as goal

pub returns-in-Some-clause-writes : goal.returns-in-Some-clause-writes
returns-in-Some-clause-writes g c = λ log honest keeps.
    rests g.D.Disk.remembers g.D.Disk.state g.D.Disk.clock c.args.disk.now c.args.disk.now c.args.self.now log _ _ refl (subst (λ (r : Redo). IsRedo r) c.self.view_is c.self.invariant) keeps (λ image left. g.met.D.Disk.only_now c.args.disk.now image honest left)

pub returns-in_err-body-clause-writes : goal.returns-in_err-body-clause-writes
returns-in_err-body-clause-writes g c = λ log honest keeps.
    rests g.D.Disk.remembers g.D.Disk.state g.D.Disk.clock c.args.disk.now c.args.disk.now c.args.self.now log _ _ c.from_residual.ensures.0 (subst (λ (r : Redo). IsRedo r) c.self.view_is c.self.invariant) keeps
    (λ image left. g.met.D.Disk.only_now c.args.disk.now image honest left)

pub returns-clause-cause : goal.returns-clause-cause
returns-clause-cause g c =
    let room = subst (λ (b : List ℕ). Fit LOG_REGION_BYTES (b ∷ [])) (sym c.in_ok-body.ensures.bytes) (always_room c.args.version c.args.base.now LOG_REGION_BYTES refl c.requires.fits c.requires.right) in
    rewritten LOG_REGION_BYTES (c.in_ok-body.body ∷ []) room kinds.Log (g.D.Disk.faults c.args.disk.now) (g.D.Disk.faults c.replace.new.disk) c.args.self.now.area c.replace.result c.replace.ensures.cause

pub returns-clause-writes : goal.returns-clause-writes
returns-clause-writes g c = λ log honest keeps.
    c.replace.ensures.writes log (base_alone c.args.version c.args.base.now) honest keeps (refl, record { spelled = c.in_ok-body.ensures.bytes; fits = c.requires.fits; right = c.requires.right }, tt)
