use Rattle.store_core.proofs.Pinned.{pinned_retained}
use Rattle.store_core.proofs.desk_core.Core.start_of.Goals as goal

pub start-requires-clause-retained : goal.start-requires-clause-retained
start-requires-clause-retained g c = pinned_retained g.D.Disk.is_honest g.D.Disk.state c.requires.core.opening c.args.self.now c.requires.core.plain c.requires.core.is c.args.snapshot c.requires.pinned
