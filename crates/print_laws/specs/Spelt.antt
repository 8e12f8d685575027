-- The bytes of a line.
use Rattle.std.specs.Prelude.{◌≡◌, ◌≢◌, ◌<◌, ◌^◌, ◌++◌, ℕ, pos, List, [], ◌∷◌, length, unsigned_abs}
use Rattle.std.specs.Fmt.{decimal}
use Rattle.std.specs.List.{AllByRecursion}
use Rattle.std.specs.Str.{str_to_ascii_uppercase}
use Rattle.values.specs.Text.{IsPrintable, IsText}
use Rattle.values.specs.Name.{IsName}
use Rattle.sql_lexer.specs.declared.token.Keyword.{Keyword}
use Rattle.sql_lexer.specs.declared.token.Token.{Token}
use Rattle.sql_lexer.specs.declared.token.Token.TheVariants.{Keyword as KeywordToken, Name}
use Rattle.sql_lexer.specs.declared.token.Token.TheVariants.{Integer, Text, LongText, Sign}
use Rattle.sql_lexer.specs.Token.{quoted, sign_bytes, spelling}
use Rattle.sql_parts.specs.declared.parsed.Parsed.{Parsed}
use Rattle.print_laws.specs.Printed.{printed}

-- the bytes of a token; a word or a number that no sentence takes has none
abbrev pub spelt : Token → List ℕ
spelt (KeywordToken k) = spelling k
spelt (Name name) = name
spelt (Integer n) = decimal (unsigned_abs n)
spelt (Text text) = quoted text
spelt (LongText text) = quoted text
spelt (Sign s) = sign_bytes s
spelt _ = []

-- each token, and a blank
abbrev pub spaced : List Token → List ℕ
spaced [] = []
spaced (t ∷ ts) = spelt t ++ 32 ∷ spaced ts

-- the line that says it
abbrev pub line_of : Parsed → List ℕ
line_of p = spaced (printed p)

-- names are no keywords, numbers are below 2^63, and texts of up to 200 bytes and longer ones are printable
abbrev pub HasSpelling : Token → Type 0
HasSpelling (KeywordToken k) = Unit {0}
HasSpelling (Name name) = IsName name × ((k : Keyword) → str_to_ascii_uppercase name ≢ spelling k)
HasSpelling (Integer n) = (m : ℕ) × (n ≡ pos m) × (m < 2 ^ 63)
HasSpelling (Text text) = IsText text
HasSpelling (LongText text) = AllByRecursion IsPrintable text × (200 < length text)
HasSpelling (Sign s) = Unit {0}
HasSpelling _ = ⊥

-- each token of the line is one that bytes spell
abbrev pub IsSpellable : Parsed → Type 0
IsSpellable p = AllByRecursion HasSpelling (printed p)
