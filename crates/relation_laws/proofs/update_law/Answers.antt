use Rattle.relation_laws.proofs.Updated.{update_law}
use Rattle.relation_laws.proofs.update_law.Goals as goal

pub returns : goal.returns
returns c = update_law
