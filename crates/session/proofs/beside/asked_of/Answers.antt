use Rattle.session.proofs.ResultTables.{asked-gives}
use Rattle.session.proofs.beside.asked_of.Goals as goal

pub returns : goal.returns
returns c = asked-gives c.select.result c.args.query.now c.args.table.now c.args.rows.now c.of_one-scope.result c.in_ok-columns.columns c.in_ok-check_beside.ensures c.of_one-scope.ensures c.in_ok-columns.ensures c.select.ensures
