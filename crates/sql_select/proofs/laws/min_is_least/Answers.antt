use Rattle.sql_select.proofs.Following.{min_is_least}
use Rattle.sql_select.proofs.laws.min_is_least.Goals as goal

pub returns : goal.returns
returns c = min_is_least
