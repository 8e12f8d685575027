use Rattle.std.proofs.Common.{◌≡◌, ◌+◌, ◌*◌, ◌≤◌, take, sum_by}
use Rattle.values.specs.Row.{value_bytes}
use Rattle.values.proofs.row.row_bytes.Given as goal

abbrev pub invariant-loop-value : goal.invariant-loop-value
invariant-loop-value l = (l.bytes ≡ 9 + sum_by value_bytes (take l.value-index l.row)) × (l.bytes ≤ 9 + 202 * l.value-index)
