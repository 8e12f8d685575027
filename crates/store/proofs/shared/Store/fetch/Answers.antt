use Rattle.std.proofs.Common.{◌≡◌, ◌∙◌, sym, subst}
use Rattle.opening.specs.Devices.{AreUnwritten}
use Rattle.store.specs.Opening.{disks_of}
use Rattle.store.proofs.Crashing.{opened_honestly}
use Rattle.store.proofs.Looked.{gathered_so, taken_apart, whole_so}
use Rattle.store.proofs.shared.Store.fetch.Goals as goal

pub returns-in-Ok-new-clause-new : goal.returns-in-Ok-new-clause-new
returns-in-Ok-new-clause-new g c = λ k s there. let n = c.in-Ok-new.ensures.new k s there in (n.0, n.1, n.2)

pub returns-in-Ok-new-clause-begins : goal.returns-in-Ok-new-clause-begins
returns-in-Ok-new-clause-begins g c = record {
  core = c.in-Ok.core;
  archive = c.in-Ok.archive;
  opened = c.in-Ok.ensures.opened.0;
  read = c.in-Ok.ensures.opened.1;
  counts = c.in-Ok.ensures.cause;
  begins = c.in-Ok-new.ensures.begins;
  sat = c.in-Ok-new.ensures.sat ∙ sym c.in-Ok-new.ensures.seats.1;
  each = λ k s there. (c.in-Ok-new.ensures.new k s there).3;
  honestly = opened_honestly g.D.Disk.extent g.D.Disk.is_honest g.D.Disk.remembers g.D.Disk.state g.D.Disk.clock c.args.version c.args.disks c.in-Ok.core c.in-Ok.archive _ c.in-Ok.ensures.opened.0 c.in-Ok.ensures.opened.1 c.in-Ok-new.ensures.begins;
}

pub returns-in-Err-new-clause-back : goal.returns-in-Err-new-clause-back
returns-in-Err-new-clause-back g c =
    let disk = g.D.Disk in
    let core = c.in-Ok.core in
    let back = c.in-Err-new.ensures.back in
    let parts = c.into_parts-log.ensures.parts in
    let same : c.gathered.result ≡ disks_of core c.in-Ok.archive = gathered_so disk.extent disk.faults disk.is_honest disk.remembers disk.state disk.clock core c.in-Err-new.core c.in-Ok.archive c.in-Err-new.archive c.into_parts-log.result c.gathered.result back.0 back.1 parts c.gathered.ensures in
    let whole = whole_so disk.extent disk.faults disk.is_honest disk.remembers disk.state disk.clock core c.in-Err-new.core c.into_parts-log.result back.0 parts c.into_parts-log.ensures.whole in
    subst (AreUnwritten disk.extent disk.is_honest disk.remembers disk.state disk.clock c.args.disks) (sym same)
    (taken_apart disk.extent disk.faults disk.is_honest disk.remembers disk.state disk.clock c.args.disks core c.in-Ok.archive c.in-Ok.ensures.opened.1 whole)
