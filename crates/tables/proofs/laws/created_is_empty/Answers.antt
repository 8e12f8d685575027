use Rattle.tables.proofs.Following.{created_is_empty}
use Rattle.tables.proofs.laws.created_is_empty.Goals as goal

pub returns : goal.returns
returns c = created_is_empty
