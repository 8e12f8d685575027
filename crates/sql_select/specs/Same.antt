-- Values and rows that are the same, and what they feed a hasher.
use Rattle.std.specs.Prelude.{◌==◌, ◌++◌, ℕ, Bool, false, List}
use Rattle.std.specs.Cmp.Lexicographic.{pointwise}
use Rattle.std.specs.Hash as fed
use Rattle.std.specs.List.{flat_map}
use Rattle.std.specs.Ordering.{int_eq}
use Rattle.values.specs.declared.value.Value.{Value}
use Rattle.values.specs.declared.value.Value.TheVariants.{Int, Text}

-- whether two values are the same number or the same text
abbrev pub same_value : Value → Value → Bool
same_value (Int m) (Int n) = int_eq m n
same_value (Int m) (Text t) = false
same_value (Text s) (Int n) = false
same_value (Text s) (Text t) = pointwise ◌==◌ s t

-- whether two rows have the same values
abbrev pub same_row : List Value → List Value → Bool
same_row = pointwise same_value

-- the writes of a value to a hasher: its kind, and then its number or its bytes
abbrev pub value_writes : Value → List (List ℕ)
value_writes (Int n) = fed.u8 0 ++ fed.i64 n
value_writes (Text t) = fed.u8 1 ++ fed.slice fed.u8 t

-- the writes of a row: those of its values in order
abbrev pub row_writes : List Value → List (List ℕ)
row_writes row = flat_map value_writes row
