use Rattle.tree_index.specs.Shaped.{opens_few}
use Rattle.tree_index.proofs.laws.opens_few.Goals as goal

pub returns : goal.returns
returns c = opens_few
