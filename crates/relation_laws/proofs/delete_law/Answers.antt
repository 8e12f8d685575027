use Rattle.relation_laws.proofs.Deleted.{delete_law}
use Rattle.relation_laws.proofs.delete_law.Goals as goal

pub returns : goal.returns
returns c = delete_law
