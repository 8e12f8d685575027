use Rattle.heap_file.proofs.Ones.{answers_are_one}
use Rattle.heap_file.proofs.laws.answers_are_one.Goals as goal

pub returns : goal.returns
returns c = answers_are_one
