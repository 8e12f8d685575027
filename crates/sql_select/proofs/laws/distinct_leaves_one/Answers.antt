use Rattle.sql_select.proofs.Following.{distinct_leaves_one}
use Rattle.sql_select.proofs.laws.distinct_leaves_one.Goals as goal

pub returns : goal.returns
returns c = distinct_leaves_one
