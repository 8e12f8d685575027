use Rattle.rql.proofs.TableRows.{tables_fit}
use Rattle.rql.proofs.table.tables_fit.Goals as goal

pub returns : goal.returns
returns c = tables_fit
