-- Lines of text.
use Rattle.std.specs.Prelude.{◌++◌, ℕ, List, [], ◌∷◌}

-- a line of text: the text and a line feed
abbrev pub line : List ℕ → List ℕ
line text = text ++ 10 ∷ []
