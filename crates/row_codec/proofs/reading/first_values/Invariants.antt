use Rattle.std.proofs.Common.{◌≡◌, ◌≤◌, ◌++◌, length, drop}
use Rattle.std.specs.List.{flat_map, AllByRecursion}
use Rattle.row_codec.specs.RowCode.{value_code, IsValue}
use Rattle.row_codec.proofs.reading.first_values.Given as goal

abbrev pub invariant-values : goal.invariant-values
invariant-values l = record {
  count : length l.row ≡ l.counter;
  lawful : AllByRecursion IsValue l.row;
  within : l.end ≤ length l.bytes;
  read : l.bytes ≡ flat_map value_code l.row ++ drop l.end l.bytes;
}
