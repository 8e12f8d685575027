-- What the label of a commit may hold.
use Rattle.std.specs.Prelude.{◌&&◌, nat_le, ℕ, Bool, List, length}
use Rattle.std.specs.List.{list_all}
use Rattle.retro_base.specs.declared.limits.TheConstants.{LABEL_BYTES}

-- a byte of printable ASCII
abbrev pub is_printable : ℕ → Bool
is_printable byte = nat_le 32 byte && nat_le byte 126

-- what a label may hold: up to 64 bytes of printable ASCII
abbrev pub is_label : List ℕ → Bool
is_label bytes = nat_le (length bytes) LABEL_BYTES && list_all is_printable bytes
