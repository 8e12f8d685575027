use Rattle.std.proofs.Common.{◌≡◌, ◌∙◌, ◌*◌, ℕ, List, Vec, ap, subst, arith}
use Rattle.std.specs.declared.alloc.Global.{Global}
use Rattle.disk_model.specs.Sizes.{maplog_half}
use Rattle.retro_base.specs.declared.device.Device.TheVariants.{Maplog}
use Rattle.gate_log.specs.Bodies.{bodies_of, BreaksAs}
use Rattle.gate_log.specs.Cause.{IsReadRefusal}
use Rattle.area_log.specs.Area.{Fetched}
use Rattle.area_log.specs.Listed.{IsRefused, refusal_of}
use Rattle.area_log.proofs.Fetches.{unread_told}
use Rattle.records.specs.Maplog.{IsMaplog}
use Rattle.map_log.specs.Log.{MapArea}
use Rattle.map_log.proofs.Records.{fetched_mappings, maplog_sound}
use Rattle.map_log.proofs.log.MapLog.fetch.Goals as goal

pub returns-in-Ok-clause-sound : goal.returns-in-Ok-clause-sound
returns-in-Ok-clause-sound g c = maplog_sound c.args.version c.args.sizes.pages c.args.sizes.capacity (bodies_of c.deref.result.now) c.in-Ok.mappings c.in-Ok.ensures

pub returns-clause-cause : goal.returns-clause-cause
returns-clause-cause g c =
    let area = c.in_ok-log.log in
    let items = c.in_ok-log.bodies.items in
    let e = c.in-Err.error in
    let found = c.in_ok-log.ensures in
    let stands_for = IsMaplog c.args.version c.args.sizes.pages c.args.sizes.capacity in
    subst (λ (n : ℕ). IsReadRefusal (IsRefused n stands_for (g.D.Disk.is_honest c.args.disk.now) (g.D.Disk.extent c.args.disk.now) (g.D.Disk.state c.args.disk.now).seen) Maplog
    (g.D.Disk.faults c.args.disk.now) (g.D.Disk.faults c.listed.new.disk) c.refusal_of.result) c.maplog_half.ensures
    (unread_told Maplog c.maplog_half.result stands_for (g.D.Disk.is_honest c.args.disk.now) (g.D.Disk.extent c.args.disk.now) (g.D.Disk.state c.args.disk.now) (g.D.Disk.state c.listed.new.disk)
    area (bodies_of items) found.size found.log found.fetched (λ h. (found.quiet h).same) (g.met.D.Disk.sized c.args.disk.now) c.refusal_of.result e _ _
    (c.refusal_of.ensures ∙ ap (λ (vecs : List (Vec ℕ Global)). refusal_of area (bodies_of vecs) e) c.deref-in-Err.ensures.value) found.cause
    (subst (λ (vecs : List (Vec ℕ Global)). BreaksAs stands_for (bodies_of vecs) e) c.deref.ensures.value c.in-Err.ensures))

pub returns-in-Ok-clause-fetched : goal.returns-in-Ok-clause-fetched
returns-in-Ok-clause-fetched g c = λ told.
    let sizes = c.args.sizes in
    let old = g.D.Disk.state c.args.disk.now in
    let new = g.D.Disk.state c.listed.new.disk in
    let log : MapArea = record { area = c.in_ok-log.log; version = c.args.version; page_count = sizes.pages; capacity = sizes.capacity } in
    let bodies : List (List ℕ) = bodies_of c.in_ok-log.bodies.items in
    let whole : g.D.Disk.extent c.args.disk.now ≡ 2 * maplog_half sizes.capacity = omega (arith, c.in_ok-log.ensures.size, c.maplog_half.ensures) in
    let half : log.area.log.size ≡ maplog_half sizes.capacity = omega (arith, c.in_ok-log.ensures.log.size, whole) in
    let fetched : Fetched (maplog_half sizes.capacity) log.area bodies old new = subst (λ (n : ℕ). Fetched n log.area bodies old new) c.maplog_half.ensures (c.in_ok-log.ensures.fetched told) in
    let stands : IsMaplog log.version sizes.pages sizes.capacity bodies c.in-Ok.mappings =
    subst (λ (vecs : List (Vec ℕ Global)). IsMaplog log.version sizes.pages sizes.capacity (bodies_of vecs) c.in-Ok.mappings) c.deref.ensures.value c.in-Ok.ensures in
    fetched_mappings log bodies c.in-Ok.mappings old new half fetched (g.met.D.Disk.sized c.args.disk.now told ∙ whole) (c.listed.ensures.quiet told).same c.in_ok-log.ensures.log.gate stands
