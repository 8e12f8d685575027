use Rattle.std.proofs.Common.{◌≡◌, ◌∙◌, refl, sym, ap, subst}
use Rattle.disk_model.specs.declared.four.Four.{Four}
use Rattle.disk_model.specs.declared.four.Sizes.{Sizes}
use Rattle.opening.specs.Devices.{AreUnwritten, IsUnopened, of_each, SameCounts}
use Rattle.store.specs.Opening.{AreRefused, disks_of, four_of}
use Rattle.store.proofs.Looked.{core_refused, gathered_so, opens_from, read_by, steady, told_twice, unwritten, whole_so}
use Rattle.store.proofs.fetching.beside.Goals.{else-sizes-via-then-sizes+else-sizes-2, else-sizes-via-else-sizes}
use Rattle.store.proofs.fetching.beside.Goals as goal

pub returns-in-Err-fetch-clause-back : goal.returns-in-Err-fetch-clause-back
returns-in-Err-fetch-clause-back g c = λ first slots maps looked.
    let disk = g.D.Disk in
    let e = c.in-Err-fetch.field-0 in
    let found = c.in-Err-fetch.ensures in
    subst (AreUnwritten disk.extent disk.is_honest disk.remembers disk.state disk.clock (four_of first c.args.pages slots maps)) (sym c.gathered-in-Err-fetch.ensures)
    (unwritten disk.extent disk.faults disk.is_honest disk.remembers disk.state disk.clock g.met.D.Disk.sized c.args.version first c.args.log c.args.pages slots maps c.args.archive c.args.sizes looked e.log e.pages
    (record { same = found.same.0; quiet = found.quiet_log }) (record { same = found.same.1; quiet = found.quiet_pages }))

pub returns-in-Err-fetch-clause-cause : goal.returns-in-Err-fetch-clause-cause
returns-in-Err-fetch-clause-cause g c = λ first slots maps looked.
    let disk = g.D.Disk in
    let e = c.in-Err-fetch.field-0 in
    subst (λ (f : Four g.row.D.Denot). IsUnopened (AreRefused disk.extent disk.is_honest disk.state c.args.version (four_of first c.args.pages slots maps)) (of_each disk.faults (four_of first c.args.pages slots maps)) (of_each disk.faults f) e.why) (sym c.gathered-in-Err-fetch.ensures)
    (core_refused disk.extent disk.faults disk.is_honest disk.remembers disk.state disk.clock g.met.D.Disk.sized c.args.version first c.args.log c.args.pages slots maps c.args.archive c.args.sizes looked e c.in-Ok.mappings c.end.result c.in-Ok.ensures.kept c.end.ensures
    c.in-Err-fetch.ensures.cause)

pub returns-then-sizes-2-clause-opened : goal.returns-then-sizes-2-clause-opened
returns-then-sizes-2-clause-opened g c = λ first slots maps looked.
    let disk = g.D.Disk in
    let found = c.in-Ok-fetch.ensures in (
      opens_from disk.extent disk.faults disk.is_honest disk.remembers disk.state disk.clock g.met.D.Disk.sized c.args.version first c.args.log c.args.pages slots maps c.args.archive c.args.sizes looked c.in-Ok.mappings c.in-Ok.ensures.kept c.in-Ok-fetch.core found.core
          (ap (λ (s : Sizes). s.capacity) (sym c.sizes.ensures) ∙ c.if-sizes.true) (ap (λ (s : Sizes). s.pages) (sym c.sizes-then-sizes.ensures) ∙ c.if-sizes-2.true) _ found.ledger,
      read_by disk.extent disk.faults disk.is_honest disk.remembers disk.state disk.clock g.met.D.Disk.sized c.args.version first c.args.log c.args.pages slots maps c.args.archive c.args.sizes looked c.in-Ok.mappings c.in-Ok.ensures.kept c.in-Ok-fetch.core found.core
          (record { same = found.same.0; quiet = found.quiet_log }) found.quiet_pages found.same.1 found.size,
    )

pub returns-clause-back : goal.returns-clause-back
returns-clause-back g c = λ first slots maps looked.
    let disk = g.D.Disk in
    let core = c.in-Ok-fetch.core in
    let found = c.in-Ok-fetch.ensures in
    let same : c.gathered-in-Ok-fetch.result ≡ disks_of core c.args.archive = gathered_so disk.extent disk.faults disk.is_honest disk.remembers disk.state disk.clock core core c.args.archive c.args.archive c.into_parts-log.result c.gathered-in-Ok-fetch.result refl refl c.into_parts-log.ensures.parts c.gathered-in-Ok-fetch.ensures in
    let whole = whole_so disk.extent disk.faults disk.is_honest disk.remembers disk.state disk.clock core core c.into_parts-log.result refl c.into_parts-log.ensures.parts c.into_parts-log.ensures.whole in
    subst (AreUnwritten disk.extent disk.is_honest disk.remembers disk.state disk.clock (four_of first c.args.pages slots maps)) (sym same)
    (unwritten disk.extent disk.faults disk.is_honest disk.remembers disk.state disk.clock g.met.D.Disk.sized c.args.version first c.args.log c.args.pages slots maps c.args.archive c.args.sizes looked core.desk.log.disk core.desk.pool.file.disk
    (record { same = found.same.0; quiet = found.quiet_log }) (record { same = record { size = whole ∙ sym found.size; honest = found.same.1 }; quiet = found.quiet_pages }))

pub returns-clause-cause : goal.returns-clause-cause
returns-clause-cause g c = λ first slots maps looked.
    let disk = g.D.Disk in
    let core = c.in-Ok-fetch.core in
    let found = c.in-Ok-fetch.ensures in
    let same : c.gathered-in-Ok-fetch.result ≡ disks_of core c.args.archive = gathered_so disk.extent disk.faults disk.is_honest disk.remembers disk.state disk.clock core core c.args.archive c.args.archive c.into_parts-log.result c.gathered-in-Ok-fetch.result refl refl c.into_parts-log.ensures.parts c.gathered-in-Ok-fetch.ensures in (
      subst (λ (f : Four g.row.D.Denot). SameCounts (of_each disk.faults (four_of first c.args.pages slots maps)) (of_each disk.faults f)) (sym same)
          (steady disk.extent disk.faults disk.is_honest disk.remembers disk.state disk.clock g.met.D.Disk.sized c.args.version first c.args.log c.args.pages slots maps c.args.archive c.args.sizes looked core.desk.log.disk core.desk.pool.file.disk found.cause.0 found.cause.1),
      told_twice disk.extent disk.faults disk.is_honest disk.remembers disk.state disk.clock g.met.D.Disk.sized c.args.version first c.args.log c.args.pages slots maps c.args.archive c.args.sizes looked c.in-Ok.mappings c.in-Ok.ensures.kept core found.core
          (elim c.else-sizes.branch as (λ _. core.desk.base.capacity ≡ c.args.sizes.capacity → core.desk.base.page_count ≡ c.args.sizes.pages → ⊥) [
            | else-sizes-via-then-sizes+else-sizes-2 w ↦ λ capacity pages. w.if-sizes-2.false (ap (λ (s : Sizes). s.pages) w.sizes-then-sizes.ensures ∙ pages)
            | else-sizes-via-else-sizes w ↦ λ capacity pages. w.if-sizes.false (ap (λ (s : Sizes). s.capacity) c.sizes.ensures ∙ capacity)
          ]),
    )
