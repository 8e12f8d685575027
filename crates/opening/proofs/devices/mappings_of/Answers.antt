use Rattle.std.proofs.Common.{◌∙◌, List, Vec, ℕ, ap, subst}
use Rattle.std.specs.declared.alloc.Global.{Global}
use Rattle.retro_base.specs.declared.device.Device.TheVariants as kinds
use Rattle.gate_log.specs.Bodies.{BreaksAs, bodies_of}
use Rattle.gate_log.specs.Cause.{IsReadRefusal}
use Rattle.area_log.specs.Listed.{IsRefused, refusal_of}
use Rattle.area_log.proofs.Fetches.{unread_told}
use Rattle.records.specs.Maplog.{IsMaplog}
use Rattle.opening.specs.Devices.{StandsWithGate}
use Rattle.opening.proofs.Reading.{gate_there}
use Rattle.opening.proofs.devices.mappings_of.Goals as goal

pub returns-in-Ok-clause-stands : goal.returns-in-Ok-clause-stands
returns-in-Ok-clause-stands g c =
    let area = c.in_ok-area.area in
    let items = c.in_ok-area.bodies.items in
    let maps = c.in-Ok.mappings in
    let found = c.in_ok-area.ensures in
    let stands_for = IsMaplog c.args.version c.args.sizes.pages c.args.sizes.capacity in
    subst (λ (n : ℕ). g.D.Disk.is_honest c.args.disk.now → StandsWithGate n stands_for (g.D.Disk.state c.args.disk.now).seen maps c.end.result) c.maplog_half.ensures
    (gate_there kinds.Maplog c.maplog_half.result stands_for (g.D.Disk.is_honest c.args.disk.now) (g.D.Disk.extent c.args.disk.now) (g.D.Disk.state c.args.disk.now) (g.D.Disk.state c.listed.new.disk)
    area (bodies_of items) found.size found.log found.fetched (λ h. (found.quiet h).same) (g.met.D.Disk.sized c.args.disk.now) c.end.result maps c.end.ensures
    (subst (λ (vecs : List (Vec ℕ Global)). stands_for (bodies_of vecs) maps) c.deref.ensures.value c.in-Ok.ensures))

pub returns-clause-cause : goal.returns-clause-cause
returns-clause-cause g c =
    let area = c.in_ok-area.area in
    let items = c.in_ok-area.bodies.items in
    let e = c.in-Err.error in
    let found = c.in_ok-area.ensures in
    let stands_for = IsMaplog c.args.version c.args.sizes.pages c.args.sizes.capacity in
    subst (λ (n : ℕ). IsReadRefusal (IsRefused n stands_for (g.D.Disk.is_honest c.args.disk.now) (g.D.Disk.extent c.args.disk.now) (g.D.Disk.state c.args.disk.now).seen) kinds.Maplog
    (g.D.Disk.faults c.args.disk.now) (g.D.Disk.faults c.listed.new.disk) c.refusal_of.result) c.maplog_half.ensures
    (unread_told kinds.Maplog c.maplog_half.result stands_for (g.D.Disk.is_honest c.args.disk.now) (g.D.Disk.extent c.args.disk.now) (g.D.Disk.state c.args.disk.now) (g.D.Disk.state c.listed.new.disk)
    area (bodies_of items) found.size found.log found.fetched (λ h. (found.quiet h).same) (g.met.D.Disk.sized c.args.disk.now) c.refusal_of.result e _ _
    (c.refusal_of.ensures ∙ ap (λ (vecs : List (Vec ℕ Global)). refusal_of area (bodies_of vecs) e) c.deref-in-Err.ensures.value) found.cause
    (subst (λ (vecs : List (Vec ℕ Global)). BreaksAs stands_for (bodies_of vecs) e) c.deref.ensures.value c.in-Err.ensures))
