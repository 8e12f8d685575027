-- What a text may hold.
use Rattle.std.specs.Prelude.{◌≤◌, ℕ, List, length}
use Rattle.std.specs.List.{AllByRecursion}

-- a byte of printable ASCII
abbrev pub IsPrintable : ℕ → Type 0
IsPrintable byte = (32 ≤ byte) × (byte ≤ 126)

-- what a text may hold: up to 200 bytes of printable ASCII
abbrev pub IsText : List ℕ → Type 0
IsText bytes = (length bytes ≤ 200) × AllByRecursion IsPrintable bytes
