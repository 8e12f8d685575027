use Rattle.std.proofs.Common.{◌∙◌, ℕ, List, Vec, ap, refl, subst}
use Rattle.std.specs.declared.alloc.Global.{Global}
use Rattle.retro_base.specs.declared.limits.TheConstants.{LOG_REGION_BYTES}
use Rattle.retro_base.specs.declared.device.Device.TheVariants as kinds
use Rattle.gate_log.specs.Bodies.{BreaksAs, bodies_of}
use Rattle.area_log.specs.Listed.{refusal_of}
use Rattle.area_log.proofs.Fetches.{unread_told}
use Rattle.records.specs.Log.{IsLog}
use Rattle.redo_log.proofs.Logs.{read_right}
use Rattle.redo_log.proofs.log.RedoLog.fetch.Goals as goal

pub returns-in-Ok-clause-read : goal.returns-in-Ok-clause-read
returns-in-Ok-clause-read g c =
    let items = c.in_ok-area.bodies.items in
    let stands = subst (λ (vecs : List (Vec ℕ Global)). IsLog c.args.version (bodies_of vecs) c.in-Ok.log) c.deref.ensures.value c.in-Ok.ensures.reads in
    read_right c.args.version (record { area = c.in_ok-area.area; version = c.args.version }) (g.D.Disk.extent c.args.disk.now) (bodies_of items) c.in-Ok.log c.in_ok-area.ensures.size c.in_ok-area.ensures.log refl stands c.in-Ok.ensures.base c.in-Ok.ensures.right

pub returns-clause-cause : goal.returns-clause-cause
returns-clause-cause g c =
    let area = c.in_ok-area.area in
    let items = c.in_ok-area.bodies.items in
    let e = c.in-Err.error in
    let found = c.in_ok-area.ensures in
    unread_told kinds.Log LOG_REGION_BYTES (IsLog c.args.version) (g.D.Disk.is_honest c.args.disk.now) (g.D.Disk.extent c.args.disk.now) (g.D.Disk.state c.args.disk.now) (g.D.Disk.state c.listed.new.disk)
    area (bodies_of items) found.size found.log found.fetched (λ h. (found.quiet h).same) (g.met.D.Disk.sized c.args.disk.now) c.refusal_of.result e _ _
    (c.refusal_of.ensures ∙ ap (λ (vecs : List (Vec ℕ Global)). refusal_of area (bodies_of vecs) e) c.deref-in-Err.ensures.value) found.cause
    (subst (λ (vecs : List (Vec ℕ Global)). BreaksAs (IsLog c.args.version) (bodies_of vecs) e) c.deref.ensures.value c.in-Err.ensures.reads)
