use Rattle.relation_laws.proofs.Ranging.{ranged_law}
use Rattle.relation_laws.proofs.ranged_law.Goals as goal

pub returns : goal.returns
returns c = ranged_law
