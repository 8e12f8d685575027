use Rattle.heap_laws.proofs.Staying.{indexes_stay_law}
use Rattle.heap_laws.proofs.indexes_stay_law.Goals as goal

pub returns : goal.returns
returns c = indexes_stay_law
