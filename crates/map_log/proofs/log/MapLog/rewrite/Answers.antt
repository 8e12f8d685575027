use Rattle.std.proofs.Common.{◌≡◌, ◌∙◌, ◌+◌, ◌*◌, ◌<◌, ◌≤◌, ◌^◌, ℕ, List, length, refl, sym, ap, subst, arith}
use Rattle.std.specs.List.{AllByRecursion}
use Rattle.retro_base.specs.Framing.{records_of}
use Rattle.gate_log.proofs.Results.{err_owes}
use Rattle.records.specs.Entries.{page_width}
use Rattle.records.specs.Maplog.{IsMaplog}
use Rattle.map_log.specs.Bodies.{maplog_bodies}
use Rattle.map_log.specs.Log.{MapArea}
use Rattle.map_log.proofs.Causes.{rewritten_or_refused, room_behind}
use Rattle.map_log.proofs.Records.{puts_nothing, puts_there}
use Rattle.map_log.proofs.Runs.{bodies_size, bodies_stand, pages-fit}
use Rattle.map_log.proofs.log.MapLog.rewrite.Goals as goal

pub returns-in-Some-clause-puts : goal.returns-in-Some-clause-puts
returns-in-Some-clause-puts g c =
    rw (← c.self.view_is)
    (λ honest mappings keeps. puts_nothing _ _ c.self.invariant mappings (record { low = c.args.low; pages = c.args.pages.now }) g.D.Disk.remembers g.D.Disk.state g.D.Disk.clock c.args.disk.now _ keeps tt (λ image left. g.met.D.Disk.only_now c.args.disk.now image honest left))

pub maplog_bodies-requires-clause-fit : goal.maplog_bodies-requires-clause-fit
maplog_bodies-requires-clause-fit g c =
    let same : c.self.inside.page_count ≡ c.args.self.now.page_count = ap (λ (l : MapArea). l.page_count) c.self.view_is in
    pages-fit c.args.self.now.page_count (256 ^ page_width c.self.inside.version) c.args.pages.now (omega (arith, same, c.self.invariant.fits)) c.requires.pages

pub returns-in_err-bodies-clause-puts : goal.returns-in_err-bodies-clause-puts
returns-in_err-bodies-clause-puts g c =
    rw (← c.self.view_is)
    (λ honest mappings keeps. puts_nothing _ _ c.self.invariant mappings (record { low = c.args.low; pages = c.args.pages.now }) g.D.Disk.remembers g.D.Disk.state g.D.Disk.clock c.args.disk.now c.from_residual.result keeps
    (err_owes c.from_residual.result _ _ c.from_residual.ensures.1) (λ image left. g.met.D.Disk.only_now c.args.disk.now image honest left))

pub returns-clause-cause : goal.returns-clause-cause
returns-clause-cause g c =
    let is : c.deref.result.now ≡ maplog_bodies c.self.inside.version c.self.inside.capacity c.args.low c.args.pages.now = c.deref.ensures.value ∙ c.in_ok-bodies.ensures.bodies in
    let few : length (records_of c.deref.result.now) ≤ 38 + 5 * length c.args.pages.now = rw is (bodies_size c.self.inside.version c.self.inside.capacity c.args.low c.args.pages.now) in
    let many : length c.args.pages.now ≤ c.self.inside.capacity = omega (arith, c.requires.few, ap (λ (l : MapArea). l.capacity) c.self.view_is) in
    rw (← c.self.view_is)
    (rewritten_or_refused c.self.inside.log c.deref.result.now (g.D.Disk.faults c.args.disk.now) (g.D.Disk.faults c.replace.new.disk) c.self.invariant.device (omega (arith, few, many, c.self.invariant.size)) c.replace.result c.replace.ensures.cause)

pub returns-clause-room : goal.returns-clause-room
returns-clause-room g c =
    let is : c.deref.result.now ≡ maplog_bodies c.self.inside.version c.self.inside.capacity c.args.low c.args.pages.now = c.deref.ensures.value ∙ c.in_ok-bodies.ensures.bodies in
    let few : length (records_of c.deref.result.now) ≤ 38 + 5 * length c.args.pages.now = rw is (bodies_size c.self.inside.version c.self.inside.capacity c.args.low c.args.pages.now) in
    let many : length c.args.pages.now ≤ c.self.inside.capacity = omega (arith, c.requires.few, ap (λ (l : MapArea). l.capacity) c.self.view_is) in
    room_behind c.self.inside.version c.self.inside.log c.replace.new.self c.deref.result.now (length c.args.pages.now) c.self.inside.capacity c.replace.result c.replace.ensures.log.is c.self.invariant.size few many

pub returns-clause-puts : goal.returns-clause-puts
returns-clause-puts g c =
    let old : MapArea = record { area = c.self.inside.log; version = c.self.inside.version; page_count = c.self.inside.page_count; capacity = c.self.inside.capacity } in
    let new : MapArea = record { area = c.replace.new.self; version = c.self.inside.version; page_count = c.self.inside.page_count; capacity = c.self.inside.capacity } in
    let is : c.deref.result.now ≡ maplog_bodies old.version old.capacity c.args.low c.args.pages.now = c.deref.ensures.value ∙ c.in_ok-bodies.ensures.bodies in
    let same : c.self.inside.page_count ≡ c.args.self.now.page_count = ap (λ (l : MapArea). l.page_count) c.self.view_is in
    let all : AllByRecursion (λ page. page < old.page_count) c.args.pages.now = subst (λ (n : ℕ). AllByRecursion (λ page. page < n) c.args.pages.now) (sym same) c.requires.pages in
    let stands : IsMaplog old.version old.page_count old.capacity c.deref.result.now (record { low = c.args.low; pages = c.args.pages.now }) =
    subst (λ (bs : List (List ℕ)). IsMaplog old.version old.page_count old.capacity bs (record { low = c.args.low; pages = c.args.pages.now })) (sym is)
    (bodies_stand old.version old.capacity c.args.low c.args.pages.now old.page_count c.requires.end (omega arith) c.self.invariant.fits all) in
    rw (← c.self.view_is)
    (λ honest mappings keeps.
    puts_there old new c.self.invariant mappings (record { low = c.args.low; pages = c.args.pages.now }) g.D.Disk.remembers g.D.Disk.state g.D.Disk.clock c.args.disk.now c.replace.new.disk c.replace.result keeps c.replace.new.self
    (λ (bodies : List (List ℕ)). c.deref.result.now) (c.replace.ensures.writes honest) refl stands)
