use Rattle.tables.proofs.Following.{inserted_are_last}
use Rattle.tables.proofs.laws.inserted_are_last.Goals as goal

pub returns : goal.returns
returns c = inserted_are_last
