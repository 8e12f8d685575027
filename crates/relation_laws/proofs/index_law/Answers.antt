use Rattle.relation_laws.proofs.Indexed.{index_law}
use Rattle.relation_laws.proofs.index_law.Goals as goal

pub returns : goal.returns
returns c = index_law
