use Rattle.heap_laws.proofs.Removing.{remove_law}
use Rattle.heap_laws.proofs.remove_law.Goals as goal

pub returns : goal.returns
returns c = remove_law
