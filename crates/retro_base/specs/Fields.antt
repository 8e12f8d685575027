-- Numbers as bytes.
use Rattle.std.specs.Prelude.{ℕ, List, drop}
use Rattle.byteorder.specs.Endian.{big_number, big_bytes}

-- the number in `width` bytes from a place, the highest byte first
unfoldable pub number_at : ℕ → List ℕ → ℕ → ℕ
number_at width bytes place = big_number width (drop place bytes)

-- the `width` bytes of a number, the highest byte first
unfoldable pub field_bytes : ℕ → ℕ → List ℕ
field_bytes width value = big_bytes width value
