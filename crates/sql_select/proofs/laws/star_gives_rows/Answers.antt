use Rattle.sql_select.proofs.Following.{star_gives_rows}
use Rattle.sql_select.proofs.laws.star_gives_rows.Goals as goal

pub returns : goal.returns
returns c = star_gives_rows
