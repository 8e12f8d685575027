use Rattle.std.proofs.Common.{inr}
use Rattle.session.proofs.ResultTables.{asked_found, none_found}
use Rattle.session.proofs.beside.results_asked.Goals as goal

pub returns-in-Some : goal.returns-in-Some
returns-in-Some c = asked_found c.kept_asked.result c.args.query.now c.args.tables.now c.get.result c.in-Some.answer c.get.ensures.value c.in-Some.is c.kept_asked.ensures

pub returns-in-None : goal.returns-in-None
returns-in-None c = inr (none_found c.args.query.now c.args.tables.now c.get.result c.get.ensures.value c.in-None.is)
