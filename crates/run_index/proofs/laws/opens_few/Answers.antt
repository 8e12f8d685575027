use Rattle.run_index.proofs.Opening.{opens_few}
use Rattle.run_index.proofs.laws.opens_few.Goals as goal

pub returns : goal.returns
returns c = opens_few
