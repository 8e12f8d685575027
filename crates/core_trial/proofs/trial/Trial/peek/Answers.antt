use Rattle.core_trial.proofs.Wholes.{stays_whole}
use Rattle.core_trial.proofs.trial.Trial.peek.Goals as goal

pub invariant_of-self : goal.invariant_of-self
invariant_of-self g c = stays_whole g.D.Disk.is_honest g.D.Disk.state c.self.inside.core c.peek.new.self c.self.invariant c.peek.ensures.core

pub invariant_of-self-2 : goal.invariant_of-self-2
invariant_of-self-2 g c = stays_whole g.D.Disk.is_honest g.D.Disk.state c.self.inside.core c.peek.new.self c.self.invariant c.peek.ensures.core
