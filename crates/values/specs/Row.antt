-- How long the encoding of a row is.
use Rattle.std.specs.Prelude.{◌+◌, ℕ, List, length, sum_by}
use Rattle.values.specs.declared.value.Value.{Value}
use Rattle.values.specs.declared.value.Value.TheVariants.{Int, Text}

-- the bytes of a value in an encoded row
abbrev pub value_bytes : Value → ℕ
value_bytes (Int n) = 9
value_bytes (Text t) = 2 + length t

-- the bytes of an encoded row: its number, the number of its columns, its values
abbrev pub row_bytes : List Value → ℕ
row_bytes row = 8 + 1 + sum_by value_bytes row
