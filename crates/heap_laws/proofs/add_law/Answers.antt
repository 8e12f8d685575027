use Rattle.heap_laws.proofs.Adding.{add_law}
use Rattle.heap_laws.proofs.add_law.Goals as goal

pub returns : goal.returns
returns c = add_law
