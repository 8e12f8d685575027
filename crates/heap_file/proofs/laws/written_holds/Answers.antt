use Rattle.heap_file.proofs.Packing.{written_holds}
use Rattle.heap_file.proofs.laws.written_holds.Goals as goal

pub returns : goal.returns
returns c = written_holds
