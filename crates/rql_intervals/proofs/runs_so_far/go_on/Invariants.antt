use Rattle.std.proofs.Common.{take}
use Rattle.rql_intervals.specs.RunsSoFar.{AllGoOn}
use Rattle.rql_intervals.proofs.runs_so_far.go_on.Given as goal

abbrev pub invariant-loop-at : goal.invariant-loop-at
invariant-loop-at l = AllGoOn l.place l.rows (take l.at-index l.ongoing) l.still.items l.fn.runs.items l.runs.items
