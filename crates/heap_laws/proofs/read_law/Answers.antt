use Rattle.heap_laws.proofs.Reading.{read_law}
use Rattle.heap_laws.proofs.read_law.Goals as goal

pub returns : goal.returns
returns c = read_law
