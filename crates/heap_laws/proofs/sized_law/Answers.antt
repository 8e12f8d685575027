use Rattle.heap_laws.proofs.Indexing.{sized_law}
use Rattle.heap_laws.proofs.sized_law.Goals as goal

pub returns : goal.returns
returns c = sized_law
