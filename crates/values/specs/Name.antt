-- What a name may hold.
use Rattle.std.specs.Prelude.{◌≤◌, ◌&&◌, ◌||◌, ◌==◌, ℕ, Bool, IsTrue, List, [], ◌∷◌, length, nat_le}
use Rattle.std.specs.Cmp.Lexicographic.{pointwise}
use Rattle.std.specs.List.{list_all}

-- a letter or an underscore
abbrev pub begins_word : ℕ → Bool
begins_word b = (nat_le 97 b && nat_le b 122) || (nat_le 65 b && nat_le b 90) || (b == 95)

-- a letter, a digit or an underscore
abbrev pub continues_word : ℕ → Bool
continues_word b = begins_word b || (nat_le 48 b && nat_le b 57)

-- 1 to 32 bytes: a letter or an underscore, then letters, digits and underscores
abbrev pub IsName : List ℕ → Type 0
IsName [] = ⊥
IsName (b ∷ bs) = IsTrue (begins_word b) × IsTrue (list_all continues_word bs) × (length bs ≤ 31)

-- whether two names are the same
abbrev pub same_name : List ℕ → List ℕ → Bool
same_name = pointwise ◌==◌
