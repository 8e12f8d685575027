use Rattle.sql_select.proofs.Following.{limit_gives_a_front}
use Rattle.sql_select.proofs.laws.limit_gives_a_front.Goals as goal

pub returns : goal.returns
returns c = limit_gives_a_front
