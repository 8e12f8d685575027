-- Tokens and their places.
use Rattle.std.specs.Prelude.{◌<◌, ℕ, zero, suc, List, [], ◌∷◌, map}
use Rattle.std.specs.List.{AllByRecursion}
use Rattle.sql_lexer.specs.declared.token.Ending.{Ending}
use Rattle.sql_lexer.specs.declared.token.Ending.TheVariants.{Whole, BadByte, Unclosed}
use Rattle.sql_lexer.specs.declared.token.Lexed.{Lexed}
use Rattle.sql_lexer.specs.declared.token.Placed.{Placed}
use Rattle.sql_lexer.specs.declared.token.Token.{Token}

abbrev pub tokens_of : List Placed → List Token
tokens_of ts = map (λ t. t.token) ts

-- the place of the token with this index, and of the line's end behind the last
abbrev pub place_at : List Placed → ℕ → ℕ → ℕ
place_at [] index end = end
place_at (t ∷ ts) zero end = t.place
place_at (t ∷ ts) (suc index) end = place_at ts index end

-- all tokens stand before the place
abbrev pub AllBefore : ℕ → List Placed → Type 0
AllBefore end ts = AllByRecursion (λ (t : Placed). t.place < end) ts

-- a bad byte stands before the place
abbrev pub BadBefore : ℕ → Ending → Type 0
BadBefore end Whole = Unit {0}
BadBefore end (BadByte place) = place < end
BadBefore end Unclosed = Unit {0}

-- all places stand before the line's end
abbrev pub IsWithin : ℕ → Lexed → Type 0
IsWithin end lexed = AllBefore end lexed.tokens × BadBefore end lexed.ending
