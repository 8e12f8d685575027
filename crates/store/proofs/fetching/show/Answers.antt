use Rattle.store.proofs.Showing.{shown_so}
use Rattle.store.proofs.fetching.show.Goals as goal

pub returns-in-Ok-clause-shown : goal.returns-in-Ok-clause-shown
returns-in-Ok-clause-shown g c =
    shown_so g.D.Disk.is_honest g.D.Disk.state c.args.version c.args.disks c.in-Ok.core c.in-Ok.archive c.sizes.result c.horizon-oldest.result c.acked.result c.pending.result c.in-Ok.ensures.opened.0
    c.sizes.ensures c.horizon-oldest.ensures c.acked.ensures c.pending.ensures
