use Rattle.sql_select.proofs.Following.{groups_are_not_empty}
use Rattle.sql_select.proofs.laws.groups_are_not_empty.Goals as goal

pub returns : goal.returns
returns c = groups_are_not_empty
