use Rattle.sql_grammar.proofs.Steps.{ends_by}
use Rattle.sql_grammar.proofs.machine.Machine.finish.Goals as goal

pub returns : goal.returns
returns c = ends_by _ _ _ _ _ _ c.is_none.ensures c.in_ok-settle.ensures
