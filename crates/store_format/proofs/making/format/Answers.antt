use Rattle.std.proofs.Common.{◌∙◌}
use Rattle.store_format.proofs.Emptiness.{opens_empty}
use Rattle.store_format.proofs.making.format.Goals as goal

pub returns-in-Ok-clause-empty : goal.returns-in-Ok-clause-empty
returns-in-Ok-clause-empty g c = λ blank.
    let same = c.fill.ensures.same in
    let sized = c.requires.sized in
    opens_empty g.D.Disk.extent g.D.Disk.state c.args.version c.args.sizes c.fill.new.disks
    (record { log = same.log.size ∙ sized.log; pages = same.pages.size ∙ sized.pages; pagelog = same.pagelog.size ∙ sized.pagelog; maplog = same.maplog.size ∙ sized.maplog })
    (c.in-Ok.ensures.filled blank)
