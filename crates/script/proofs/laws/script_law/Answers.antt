use Rattle.script.proofs.RuleLaws.{bad_law, good_law}
use Rattle.script.proofs.laws.script_law.Goals as goal

pub returns : goal.returns
returns c = record { bad = bad_law; good = good_law }
