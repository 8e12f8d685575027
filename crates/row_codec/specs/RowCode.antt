-- Rows as bytes.
use Rattle.std.specs.Prelude.{◌≡◌, ◌<◌, ◌≤◌, ◌^◌, ◌++◌, ℕ, List, [], ◌∷◌, length, drop}
use Rattle.std.specs.Prelude.{Option, Some, None, Result, Ok, Err, nat_le, if◌then◌else◌}
use Rattle.std.specs.Int.{w64, cast_unsigned}
use Rattle.std.specs.Int.RustNames.{FitsSigned}
use Rattle.std.specs.List.{flat_map, AllByRecursion}
use Rattle.retro_base.specs.Fields.{field_bytes}
use Rattle.retro_base.specs.declared.limits.TheConstants.{COLUMNS, ROW_BYTES}
use Rattle.retro_base.specs.declared.refusal.Refusal.{Refusal}
use Rattle.retro_base.specs.declared.refusal.Refusal.TheVariants.{RowTooLong}
use Rattle.values.specs.Row.{row_bytes}
use Rattle.values.specs.Text.{IsText}
use Rattle.values.specs.declared.value.Value.{Value}
use Rattle.values.specs.declared.value.Value.TheVariants.{Int, Text}

-- an integer as 1 and two's complement in eight bytes, a text as 2, its length and its bytes
abbrev pub value_code : Value → List ℕ
value_code (Int n) = 1 ∷ field_bytes 8 (cast_unsigned w64 n)
value_code (Text t) = 2 ∷ length t ∷ t

-- a row's number in eight bytes, the number of its values, and the values
abbrev pub row_code : ℕ → List Value → List ℕ
row_code number row = field_bytes 8 number ++ length row ∷ flat_map value_code row

-- what a value may be
abbrev pub IsValue : Value → Type 0
IsValue (Int n) = FitsSigned w64 n
IsValue (Text t) = IsText t

-- what a row may be
pub record IsRow (row : List Value) : Type 0 where
  pub some : 1 ≤ length row
  pub few : length row ≤ COLUMNS
  pub values : AllByRecursion IsValue row

-- these bytes are the encoding of this row under this number
pub record IsEncoded (bytes : List ℕ) (number : ℕ) (row : List Value) : Type 0 where
  pub fits : number < 2 ^ 64
  pub lawful : IsRow row
  pub code : bytes ≡ row_code number row
  pub short : length bytes ≤ ROW_BYTES

-- the encoding of a row, or how long it would be
abbrev pub encoded : ℕ → List Value → Result (List ℕ) Refusal
encoded number row =
    if nat_le (row_bytes row) ROW_BYTES then Ok (row_code number row) else Err (RowTooLong (row_bytes row))

-- the row whose encoding the bytes are, or none where they are no row's
abbrev pub IsDecoded : List ℕ → Option (ℕ × List Value) → Type 0
IsDecoded bytes None = (number : ℕ) (row : List Value) → IsEncoded bytes number row → ⊥
IsDecoded bytes (Some found) = IsEncoded bytes found.0 found.1

-- the value that stands first in the bytes, and how many bytes it takes, or none where no value stands there
abbrev pub IsFirstValue : List ℕ → Option (Value × ℕ) → Type 0
IsFirstValue bytes None = (value : Value) (rest : List ℕ) → IsValue value → bytes ≡ value_code value ++ rest → ⊥
IsFirstValue bytes (Some found) =
    IsValue found.0 × (found.1 ≤ length bytes) × (bytes ≡ value_code found.0 ++ drop found.1 bytes)

-- so many values that stand first in the bytes, and how many bytes they take, or none where so many do not stand there
abbrev pub AreFirstValues : List ℕ → ℕ → Option (List Value × ℕ) → Type 0
AreFirstValues bytes count None =
    (row : List Value) (rest : List ℕ) → length row ≡ count → AllByRecursion IsValue row → bytes
    ≡ flat_map value_code row ++ rest → ⊥
AreFirstValues bytes count (Some found) =
    (length found.0 ≡ count) × AllByRecursion IsValue found.0 × (found.1 ≤ length bytes)
    × (bytes ≡ flat_map value_code found.0 ++ drop found.1 bytes)

-- bytes are the encoding of one row alone
abbrev pub OneRow : Type 0
OneRow = (bytes : List ℕ) (m n : ℕ) (r s : List Value) → IsEncoded bytes m r → IsEncoded bytes n s → (m ≡ n) × (r ≡ s)

-- the encoding of a row is as long as the row counts, whatever its number
abbrev pub RowSize : Type 0
RowSize = (number : ℕ) (row : List Value) → length (row_code number row) ≡ row_bytes row
