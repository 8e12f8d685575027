use Rattle.session.proofs.ResultTables.{held_more}
use Rattle.session.proofs.result_table.hold.Goals as goal

pub returns : goal.returns
returns c = held_more c.args.tables.now c.insert.new.self c.args.table c.in_ok-insert.ensures.updates.0
