use Rattle.relation_laws.proofs.Working.{work_law}
use Rattle.relation_laws.proofs.work_law.Goals as goal

pub returns : goal.returns
returns c = work_law
