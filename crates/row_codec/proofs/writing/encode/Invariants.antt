use Rattle.std.proofs.Common.{◌≡◌, ◌≤◌, ◌+◌, ◌*◌, ◌++◌, ◌∷◌, length, take}
use Rattle.std.specs.List.{flat_map, AllByRecursion}
use Rattle.retro_base.specs.Fields.{field_bytes}
use Rattle.row_codec.specs.RowCode.{value_code, IsValue}
use Rattle.row_codec.proofs.writing.encode.Given as goal

abbrev pub invariant-loop-value : goal.invariant-loop-value
invariant-loop-value l = record {
  written : l.bytes.items ≡ field_bytes 8 l.number ++ length l.row ∷ flat_map value_code (take l.value-index l.row);
  lawful : AllByRecursion IsValue (take l.value-index l.row);
  short : length l.bytes.items ≤ 9 + 202 * l.value-index;
}
