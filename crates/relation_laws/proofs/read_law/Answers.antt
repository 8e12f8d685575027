use Rattle.relation_laws.proofs.Rereading.{read_law}
use Rattle.relation_laws.proofs.read_law.Goals as goal

pub returns : goal.returns
returns c = read_law
