use Rattle.sql_select.proofs.Following.{order_keeps_rows}
use Rattle.sql_select.proofs.laws.order_keeps_rows.Goals as goal

pub returns : goal.returns
returns c = order_keeps_rows
