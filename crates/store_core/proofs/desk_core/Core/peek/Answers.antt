use Rattle.store_core.proofs.Pinned.{pinned_retained}
use Rattle.store_core.proofs.desk_core.Core.peek.Goals as goal

pub peek-requires-clause-retained : goal.peek-requires-clause-retained
peek-requires-clause-retained g c = pinned_retained g.D.Disk.is_honest g.D.Disk.state c.requires.core.opening c.args.self.now c.requires.core.plain c.requires.core.is c.args.snapshot c.requires.pinned
