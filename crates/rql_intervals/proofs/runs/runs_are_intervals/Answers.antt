use Rattle.rql_intervals.proofs.RunLaws.{runs_are_intervals}
use Rattle.rql_intervals.proofs.runs.runs_are_intervals.Goals as goal

pub returns : goal.returns
returns c = runs_are_intervals
