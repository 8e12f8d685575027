use Rattle.relation_laws.proofs.Placing.{placed_law}
use Rattle.relation_laws.proofs.placed_law.Goals as goal

pub returns : goal.returns
returns c = placed_law
