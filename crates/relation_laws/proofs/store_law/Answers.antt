use Rattle.relation_laws.proofs.Beginning.{store_law}
use Rattle.relation_laws.proofs.store_law.Goals as goal

pub returns : goal.returns
returns c = store_law
