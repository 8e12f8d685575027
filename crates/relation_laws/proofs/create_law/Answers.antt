use Rattle.relation_laws.proofs.Created.{create_law}
use Rattle.relation_laws.proofs.create_law.Goals as goal

pub returns : goal.returns
returns c = create_law
