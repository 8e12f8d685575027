use Rattle.std.proofs.Common.{◌≡◌, take}
use Rattle.rql_intervals.proofs.runs_so_far.values_of.Given as goal

abbrev pub invariant-loop-value : goal.invariant-loop-value
invariant-loop-value l = l.found.items ≡ take l.value-index l.value-items
