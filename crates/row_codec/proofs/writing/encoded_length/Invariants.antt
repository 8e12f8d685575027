use Rattle.std.proofs.Common.{◌≡◌, ◌≤◌, ◌+◌, ◌*◌, take, sum_by}
use Rattle.std.specs.List.{AllByRecursion}
use Rattle.values.specs.Row.{value_bytes}
use Rattle.row_codec.specs.RowCode.{IsValue}
use Rattle.row_codec.proofs.writing.encoded_length.Given as goal

abbrev pub invariant-loop-value : goal.invariant-loop-value
invariant-loop-value l = record {
  counted : l.bytes ≡ 9 + sum_by value_bytes (take l.value-index l.row);
  lawful : AllByRecursion IsValue (take l.value-index l.row);
  short : l.bytes ≤ 9 + 202 * l.value-index;
}
