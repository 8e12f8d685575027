-- The tokens of a line.
use Rattle.std.specs.Prelude.{◌≡◌, ◌+◌, ◌++◌, ◌||◌, ◌==◌, ℕ, Bool, false, true, List, [], ◌∷◌, length}
use Rattle.std.specs.List.{AllByRecursion}
use Rattle.values.specs.Text.{IsPrintable}
use Rattle.sql_lexer.specs.declared.token.Token.{Token}
use Rattle.sql_lexer.specs.declared.token.Placed.{Placed}
use Rattle.sql_lexer.specs.declared.token.Ending.{Ending}
use Rattle.sql_lexer.specs.declared.token.Ending.TheVariants.{Whole, BadByte, Unclosed}
use Rattle.sql_lexer.specs.Token.{quote, doubled, Spells, goes_on}

-- a space or a tab
abbrev pub is_blank : ℕ → Bool
is_blank b = (b == 32) || (b == 9)

-- what passes ends before these bytes: none is left, or the next does not pass
abbrev pub EndsBefore : (ℕ → Bool) → List ℕ → Type 0
EndsBefore test [] = Unit {0}
EndsBefore test (b ∷ bs) = test b ≡ false

-- The byte at this offset is the first that is part of no token: it begins none and is no blank, or it stands in a text
-- and is not printable.
pub data IsBadAt : ℕ → List ℕ → Type 0 where
  outside : {b : ℕ} {rest : List ℕ} → is_blank b ≡ false →
      ((token : Token) (more : List ℕ) → Spells (b ∷ more) token → ⊥) → IsBadAt 0 (b ∷ rest)
  inside : {bytes : List ℕ} (text : List ℕ) (b : ℕ) (rest : List ℕ) → AllByRecursion IsPrintable text →
      ¬ IsPrintable b → bytes ≡ quote ∷ doubled text ++ b ∷ rest → IsBadAt (1 + length (doubled text)) bytes

-- the bytes are a text that has no end
abbrev pub IsUnclosed : List ℕ → Type 0
IsUnclosed bytes = (text : List ℕ) × AllByRecursion IsPrintable text × (bytes ≡ quote ∷ doubled text)

-- The tokens of the bytes that stand from a place on, each with the place of its first byte, and how they end.
pub data Lexes : ℕ → List ℕ → List Placed → Ending → Type 0 where
  whole : {place : ℕ} → Lexes place [] [] Whole
  blank : {place b : ℕ} {rest : List ℕ} {tokens : List Placed} {ending : Ending} → is_blank b ≡ true →
      Lexes (place + 1) rest tokens ending → Lexes place (b ∷ rest) tokens ending
  token : {place : ℕ} {bytes : List ℕ} {tokens : List Placed} {ending : Ending} (t : Token) (spelt rest : List ℕ) →
      bytes ≡ spelt ++ rest → Spells spelt t → EndsBefore (goes_on t) rest →
      Lexes (place + length spelt) rest tokens ending →
      Lexes place bytes (record { token = t; place = place } ∷ tokens) ending
  bad_byte : {place offset : ℕ} {bytes : List ℕ} → IsBadAt offset bytes →
      Lexes place bytes [] (BadByte (place + offset))
  unclosed : {place : ℕ} {bytes : List ℕ} → IsUnclosed bytes → Lexes place bytes [] Unclosed

-- no line has two lists of tokens or two endings
abbrev pub HasOneReading : Type 0
HasOneReading = (line : List ℕ) (tokens others : List Placed) (ending other : Ending) → Lexes 0 line tokens ending →
    Lexes 0 line others other → (tokens ≡ others) × (ending ≡ other)

-- every line has a list of tokens and an ending
abbrev pub EveryLineLexes : Type 0
EveryLineLexes = (line : List ℕ) → (tokens : List Placed) × (ending : Ending) × Lexes 0 line tokens ending
