-- The names of sessions.
use Rattle.std.specs.Prelude.{◌&&◌, ◌||◌, ℕ, Bool, not, IsTrue, List, length, nat_le, codes}
use Rattle.std.specs.List.{list_all}
use Rattle.std.specs.Str.{bytes_eq}

-- a lower-case letter or a digit
abbrev pub is_name_byte : ℕ → Bool
is_name_byte b = (nat_le 97 b && nat_le b 122) || (nat_le 48 b && nat_le b 57)

-- 1 to 16 lower-case letters and digits, neither `copier` nor `flusher`
abbrev pub is_session_name : List ℕ → Bool
is_session_name name =
    nat_le 1 (length name) && nat_le (length name) 16 && list_all is_name_byte name
    && not (bytes_eq name (codes "copier")) && not (bytes_eq name (codes "flusher"))

-- the bytes are the name of a session
abbrev pub IsSessionName : List ℕ → Type 0
IsSessionName name = IsTrue (is_session_name name)
