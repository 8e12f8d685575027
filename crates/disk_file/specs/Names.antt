-- Listed names.
use Rattle.std.specs.Prelude.{◌==◌, ℕ, Bool, IsTrue, List, string_bytes, String}
use Rattle.std.specs.Cmp.Lexicographic.{pointwise}
use Rattle.std.specs.List.{list_any}

-- whether the name has these bytes
abbrev pub has_bytes : {A : Type 0} → List ℕ → String A → Bool
has_bytes bytes name = pointwise ◌==◌ (string_bytes name) bytes

-- one of them has these bytes
abbrev pub IsNamed : {A : Type 0} → List (String A) → List ℕ → Type 0
IsNamed names bytes = IsTrue (list_any (has_bytes bytes) names)
