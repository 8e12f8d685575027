use Rattle.heap_laws.proofs.Changing.{change_law}
use Rattle.heap_laws.proofs.change_law.Goals as goal

pub returns : goal.returns
returns c = change_law
