use Rattle.relation_laws.proofs.Inserted.{insert_law}
use Rattle.relation_laws.proofs.insert_law.Goals as goal

pub returns : goal.returns
returns c = insert_law
