use Rattle.heap_laws.proofs.Making.{make_law}
use Rattle.heap_laws.proofs.make_law.Goals as goal

pub returns : goal.returns
returns c = make_law
