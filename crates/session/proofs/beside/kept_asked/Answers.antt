use Rattle.session.proofs.ResultTables.{asked_as}
use Rattle.session.proofs.beside.kept_asked.Goals as goal

pub returns : goal.returns
returns c =
    let answer = c.args.answer.now in
    asked_as c.asked_of.result c.args.query.now c.in_ok-name.name c.args.query.now.table c.in_ok-columns.columns answer.columns c.as_slice.result.now answer.rows c.in_ok-name.ensures c.in_ok-columns.ensures
    c.as_slice.ensures c.asked_of.ensures
