use Rattle.std.proofs.Common.{◌≡◌, ◌++◌, take}
use Rattle.evaluation.proofs.joined_row.append_copies.Given as goal

abbrev pub invariant-loop-value : goal.invariant-loop-value
invariant-loop-value l = l.row.items ≡ l.initial.row.items ++ take l.value-index l.values
