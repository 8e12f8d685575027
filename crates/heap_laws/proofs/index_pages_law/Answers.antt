use Rattle.heap_laws.proofs.Indexing.{index_pages_law}
use Rattle.heap_laws.proofs.index_pages_law.Goals as goal

pub returns : goal.returns
returns c = index_pages_law
