use Rattle.std.proofs.Common.{sym, ap}
use Rattle.disk_model.specs.declared.four.Sizes.{Sizes}
use Rattle.store_core.proofs.Fetching.{fetches}
use Rattle.store_core.proofs.desk_core.Core.fetch.Goals as goal

pub returns-in-Ok-new-clause-core : goal.returns-in-Ok-new-clause-core
returns-in-Ok-new-clause-core g c =
    fetches g.D.Disk.is_honest g.D.Disk.state c.args.version c.args.log c.args.pages c.args.mappings.now c.in-Ok.desk c.in-Ok-new.ledger c.sizes.result.pages c.in-Ok.ensures.desk c.in-Ok.ensures.goes
    (sym (ap (λ (s : Sizes). s.pages) c.sizes.ensures)) c.in-Ok-new.ensures.empty c.in-Ok-new.ensures.fits
