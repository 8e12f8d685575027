use Rattle.std.proofs.Common.{◌∙◌, sym}
use Rattle.opening.proofs.Holding.{untouched}
use Rattle.store.proofs.Looked.{archive_refused, pages_refused}
use Rattle.store.proofs.fetching.sides.Goals as goal

pub returns-then-place-pages_bytes-clause-cause : goal.returns-then-place-pages_bytes-clause-cause
returns-then-place-pages_bytes-clause-cause g c =
    let disk = g.D.Disk in
    let disks = c.args.disks in
    pages_refused disk.extent disk.faults disk.is_honest disk.remembers disk.state disk.clock g.met.D.Disk.sized c.args.version disks.log disks.pages disks.pagelog disks.maplog c.in-Ok.sizes c.in-Ok.ensures.size c.in-Ok.ensures.listed
    c.sizes.new.log c.size-place.result c.in-Ok.ensures.cause c.size-place.ensures (λ e. c.if-place-pages_bytes.true (e ∙ sym c.pages_bytes.ensures))

pub returns-in-Ok-fetch-clause-back : goal.returns-in-Ok-fetch-clause-back
returns-in-Ok-fetch-clause-back g c =
    let disk = g.D.Disk in
    let disks = c.args.disks in
    let first = c.in-Ok.ensures in
    let found = c.in-Ok-fetch.ensures in
    c.beside.ensures.back disks.log disks.pagelog disks.maplog (record {
      log_read = record { same = first.same; quiet = first.quiet };
      log_count = first.cause;
      log_size = first.size;
      listed = first.listed;
      pages_size = sym c.size-place.ensures ∙ c.if-place-pages_bytes.false ∙ c.pages_bytes.ensures;
      slots_read = record { same = found.pagelog_back.same; quiet = found.pagelog_back.quiet };
      slots_count = found.cause.0;
      slots_size = found.sizes.0;
      maps_read = record { same = found.maplog_back.same; quiet = found.maplog_back.quiet };
      maps_count = found.cause.1;
      maps_size = found.sizes.1;
      opened = found.opened;
    })

pub returns-in-Ok-fetch-clause-cause : goal.returns-in-Ok-fetch-clause-cause
returns-in-Ok-fetch-clause-cause g c =
    let disk = g.D.Disk in
    let disks = c.args.disks in
    let first = c.in-Ok.ensures in
    let found = c.in-Ok-fetch.ensures in
    c.beside.ensures.cause disks.log disks.pagelog disks.maplog (record {
      log_read = record { same = first.same; quiet = first.quiet };
      log_count = first.cause;
      log_size = first.size;
      listed = first.listed;
      pages_size = sym c.size-place.ensures ∙ c.if-place-pages_bytes.false ∙ c.pages_bytes.ensures;
      slots_read = record { same = found.pagelog_back.same; quiet = found.pagelog_back.quiet };
      slots_count = found.cause.0;
      slots_size = found.sizes.0;
      maps_read = record { same = found.maplog_back.same; quiet = found.maplog_back.quiet };
      maps_count = found.cause.1;
      maps_size = found.sizes.1;
      opened = found.opened;
    })

pub returns-in-Ok-fetch-clause-opened : goal.returns-in-Ok-fetch-clause-opened
returns-in-Ok-fetch-clause-opened g c =
    let disk = g.D.Disk in
    let disks = c.args.disks in
    let first = c.in-Ok.ensures in
    let found = c.in-Ok-fetch.ensures in
    c.beside.ensures.opened disks.log disks.pagelog disks.maplog (record {
      log_read = record { same = first.same; quiet = first.quiet };
      log_count = first.cause;
      log_size = first.size;
      listed = first.listed;
      pages_size = sym c.size-place.ensures ∙ c.if-place-pages_bytes.false ∙ c.pages_bytes.ensures;
      slots_read = record { same = found.pagelog_back.same; quiet = found.pagelog_back.quiet };
      slots_count = found.cause.0;
      slots_size = found.sizes.0;
      maps_read = record { same = found.maplog_back.same; quiet = found.maplog_back.quiet };
      maps_count = found.cause.1;
      maps_size = found.sizes.1;
      opened = found.opened;
    })

pub returns-in-Err-fetch-clause-back : goal.returns-in-Err-fetch-clause-back
returns-in-Err-fetch-clause-back g c =
    let disk = g.D.Disk in
    let first = c.in-Ok.ensures in
    let found = c.in-Err-fetch.ensures in
    record {
      log = record { same = first.same; quiet = first.quiet };
      pages = untouched disk.extent disk.is_honest disk.remembers disk.state disk.clock g.met.D.Disk.only_now c.args.disks.pages;
      pagelog = record { same = found.pagelog_back.same; quiet = found.pagelog_back.quiet };
      maplog = record { same = found.maplog_back.same; quiet = found.maplog_back.quiet };
    }

pub returns-in-Err-fetch-clause-cause : goal.returns-in-Err-fetch-clause-cause
returns-in-Err-fetch-clause-cause g c =
    let disk = g.D.Disk in
    let disks = c.args.disks in
    archive_refused disk.extent disk.faults disk.is_honest disk.remembers disk.state disk.clock g.met.D.Disk.sized c.args.version disks.log disks.pages disks.pagelog disks.maplog c.in-Ok.sizes c.in-Ok.ensures.size c.in-Ok.ensures.listed
    (sym c.size-place.ensures ∙ c.if-place-pages_bytes.false ∙ c.pages_bytes.ensures) c.sizes.new.log _ _ _ c.in-Ok.ensures.cause c.in-Err-fetch.ensures.cause
