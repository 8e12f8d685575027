use Rattle.retro.proofs.Phased.{phases_make_runs}
use Rattle.retro.proofs.laws.phases_make_runs.Goals as goal

pub returns : goal.returns
returns c = phases_make_runs
