use Rattle.std.proofs.Common.{◌∙◌, List, Vec, ℕ, ap, subst}
use Rattle.std.specs.declared.alloc.Global.{Global}
use Rattle.retro_base.specs.declared.device.Device.TheVariants as kinds
use Rattle.retro_base.specs.declared.limits.TheConstants.{LOG_REGION_BYTES}
use Rattle.gate_log.specs.Bodies.{BreaksAs, bodies_of}
use Rattle.area_log.specs.Listed.{refusal_of}
use Rattle.area_log.proofs.Fetches.{unread_told}
use Rattle.records.specs.Log.{IsLog}
use Rattle.opening.proofs.devices.log_of.Goals as goal

pub returns-clause-cause : goal.returns-clause-cause
returns-clause-cause g c =
    let area = c.in_ok-area.area in
    let items = c.in_ok-area.bodies.items in
    let e = c.in-Err.error in
    let found = c.in_ok-area.ensures in
    unread_told kinds.Log LOG_REGION_BYTES (IsLog c.args.version) (g.D.Disk.is_honest c.args.disk.now) (g.D.Disk.extent c.args.disk.now) (g.D.Disk.state c.args.disk.now) (g.D.Disk.state c.listed.new.disk)
    area (bodies_of items) found.size found.log found.fetched (λ h. (found.quiet h).same) (g.met.D.Disk.sized c.args.disk.now) c.refusal_of.result e _ _
    (c.refusal_of.ensures ∙ ap (λ (vecs : List (Vec ℕ Global)). refusal_of area (bodies_of vecs) e) c.deref-in-Err.ensures.value) found.cause
    (subst (λ (vecs : List (Vec ℕ Global)). BreaksAs (IsLog c.args.version) (bodies_of vecs) e) c.deref.ensures.value c.in-Err.ensures.reads)
