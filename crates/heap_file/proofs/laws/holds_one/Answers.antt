use Rattle.heap_file.proofs.Packing.{holds_one}
use Rattle.heap_file.proofs.laws.holds_one.Goals as goal

pub returns : goal.returns
returns c = holds_one
