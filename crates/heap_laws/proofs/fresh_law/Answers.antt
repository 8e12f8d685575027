use Rattle.heap_laws.proofs.Fresh.{fresh_law}
use Rattle.heap_laws.proofs.fresh_law.Goals as goal

pub returns : goal.returns
returns c = fresh_law
