-- What stands at the front of the rest of a line.
use Rattle.std.specs.Prelude.{◌<◌, ◌≤◌, ℕ, IsTrue, List, length, slice_index, take, drop}
use Rattle.sql_lexer.specs.declared.token.Token.{Token}
use Rattle.sql_lexer.specs.declared.lexer.Front.{Front}
use Rattle.sql_lexer.specs.declared.lexer.Front.TheVariants.{Blank, Token as TokenFront, BadByte, Unclosed}
use Rattle.sql_lexer.specs.Lexes.{is_blank, EndsBefore, IsBadAt, IsUnclosed}
use Rattle.sql_lexer.specs.Token.{Spells, goes_on}

-- the first bytes, so many, are this token, and no longer one
pub record IsFirstToken (bytes : List ℕ) (t : Token) (count : ℕ) : Type 0 where
  pub some : 0 < count
  pub within : count ≤ length bytes
  pub spelt : Spells (take count bytes) t
  pub longest : EndsBefore (goes_on t) (drop count bytes)

-- what stands at the front of the bytes
abbrev pub IsFront : List ℕ → Front → Type 0
IsFront bytes Blank = IsTrue (is_blank (slice_index bytes 0))
IsFront bytes (TokenFront t count) = IsFirstToken bytes t count
IsFront bytes (BadByte offset) = (offset < length bytes) × IsBadAt offset bytes
IsFront bytes Unclosed = IsUnclosed bytes
