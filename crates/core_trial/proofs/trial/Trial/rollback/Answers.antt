use Rattle.core_trial.proofs.Wholes.{stays_whole}
use Rattle.core_trial.proofs.trial.Trial.rollback.Goals as goal

pub invariant_of-self : goal.invariant_of-self
invariant_of-self g c = stays_whole g.D.Disk.is_honest g.D.Disk.state c.self.inside.core c.rollback.new.self c.self.invariant c.rollback.ensures.core
