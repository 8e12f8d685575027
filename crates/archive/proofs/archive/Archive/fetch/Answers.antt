use Rattle.std.proofs.Common.{◌≡◌, ◌∙◌, None, refl, sym, ap, subst}
use Rattle.block_file.specs.Blocks.{File, FillsDevice}
use Rattle.skippy.specs.Mappings.{end_of}
use Rattle.archive.specs.Fetching.{IsOpened}
use Rattle.archive.specs.Side.{Side}
use Rattle.archive.proofs.Opens.{is_opened}
use Rattle.archive.proofs.archive.Archive.fetch.Goals as goal

pub returns-in-Ok-clause-opened : goal.returns-in-Ok-clause-opened
returns-in-Ok-clause-opened g c =
    let side : Side g.row.D.Denot = record { disk = c.read_devices.new.maplog; log = c.in-Ok.log; levels = c.in-Ok.levels; held = end_of c.in-Ok.levels } in
    let pagelog : File g.row.D.Denot = record { disk = c.read_devices.new.pagelog; blocks = c.args.sizes.capacity } in
    let held : c.held-laid.result ≡ side.held = c.held-laid.ensures.same ∙ ap (λ (s : Side g.row.D.Denot). s.held) c.new-side.ensures in
    let opened : Side g.row.D.Denot → File g.row.D.Denot → Type 0 = λ (s : Side g.row.D.Denot) (p : File g.row.D.Denot).
    IsOpened g.D.Disk.is_honest g.D.Disk.state c.args.version c.args.sizes.pages c.args.sizes.capacity c.args.maplog (record { side = s; pagelog = p; laid = c.held-laid.result; first_fault = None }) in
    subst (λ (s : Side g.row.D.Denot). opened s c.new.result) (sym c.new-side.ensures)
    (subst (λ (p : File g.row.D.Denot). opened side p) (sym c.new.ensures.file)
    (is_opened g.D.Disk.is_honest g.D.Disk.state (record { side = side; pagelog = pagelog; laid = c.held-laid.result; first_fault = None }) c.args.version c.args.sizes.pages c.args.sizes.capacity c.args.maplog
    c.in-Ok.ensures.log refl c.in-Ok.ensures.few refl held refl
    (λ told. c.in-Ok.ensures.fetched told) (c.read_devices.ensures.maplog.same.honest) (c.in-Ok.ensures.settled) c.read_devices.ensures.pagelog.same.honest (subst (FillsDevice g.D.Disk.is_honest g.D.Disk.state) c.new.ensures.file c.new.ensures.fills)))
