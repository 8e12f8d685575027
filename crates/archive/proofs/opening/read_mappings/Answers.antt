use Rattle.std.proofs.Common.{◌≡◌, ◌<◌, length, refl, sym, ap, subst, arith}
use Rattle.skippy.specs.Mappings.{Mappings}
use Rattle.map_log.specs.Log.{FetchedMappings}
use Rattle.archive.proofs.Opens.{pushed_all, too_many}
use Rattle.archive.proofs.opening.read_mappings.Goals as goal

pub returns-then-pages-from-clause-cause : goal.returns-then-pages-from-clause-cause
returns-then-pages-from-clause-cause g c =
    let many : c.args.sizes.capacity < length c.in_ok-log.mappings.pages = omega (arith, c.if-pages-from.true, c.from.ensures, ap length c.pages-pages.ensures) in (
      refl,
      c.in_ok-log.ensures.cause,
      too_many c.args.version c.args.sizes.pages c.args.sizes.capacity (g.D.Disk.extent c.args.maplog.now) (g.D.Disk.is_honest c.args.maplog.now) c.in_ok-log.log c.in_ok-log.mappings
          (g.D.Disk.state c.args.maplog.now) (g.D.Disk.state c.fetch.new.disk) c.end.result c.in_ok-log.ensures.log (λ told. c.in_ok-log.ensures.fetched told) c.in_ok-log.ensures.size many c.end.ensures,
    )

pub returns-clause-fetched : goal.returns-clause-fetched
returns-clause-fetched g c = λ told.
    let same : c.push.new.self ≡ c.in_ok-log.mappings = pushed_all c.in_ok-log.mappings c.push.new.self c.new-levels.result c.low.result c.pages-pages.result.now c.low.ensures c.pages-pages.ensures c.new-levels.ensures c.in_ok-push.ensures.ok in
    subst (λ (m : Mappings). FetchedMappings c.in_ok-log.log m (g.D.Disk.state c.args.maplog.now) (g.D.Disk.state c.fetch.new.disk)) (sym same) (c.in_ok-log.ensures.fetched told)
