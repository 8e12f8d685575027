use Rattle.relation_laws.proofs.Needed.{edits_law}
use Rattle.relation_laws.proofs.edits_law.Goals as goal

pub returns : goal.returns
returns c = edits_law
