use Rattle.plain_run.proofs.Coming.{turns_make_runs}
use Rattle.plain_run.proofs.laws.turns_make_runs.Goals as goal

pub returns : goal.returns
returns c = turns_make_runs
