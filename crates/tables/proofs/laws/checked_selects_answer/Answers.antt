use Rattle.tables.proofs.CheckedSelects.{checked_selects_answer}
use Rattle.tables.proofs.laws.checked_selects_answer.Goals as goal

pub returns : goal.returns
returns c = checked_selects_answer
