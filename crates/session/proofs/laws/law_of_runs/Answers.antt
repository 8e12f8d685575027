use Rattle.session.proofs.Runs.{law_of_runs}
use Rattle.session.proofs.laws.law_of_runs.Goals as goal

pub returns : goal.returns
returns c = law_of_runs
