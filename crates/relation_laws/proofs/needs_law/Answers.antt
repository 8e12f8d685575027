use Rattle.relation_laws.proofs.Needed.{needs_law}
use Rattle.relation_laws.proofs.needs_law.Goals as goal

pub returns : goal.returns
returns c = needs_law
