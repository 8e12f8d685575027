use Rattle.heap_laws.proofs.Ones.{chain_answers_are_one}
use Rattle.heap_laws.proofs.chain_answers_are_one.Goals as goal

pub returns : goal.returns
returns c = chain_answers_are_one
