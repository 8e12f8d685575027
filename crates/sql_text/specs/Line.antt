-- What a line says, and where its syntax breaks.
use Rattle.std.specs.Prelude.{◌≡◌, ◌≤◌, ℕ, Some, None, List, length}
use Rattle.retro_base.specs.declared.limits.TheConstants.{LABEL_BYTES}
use Rattle.retro_base.specs.declared.refusal.Refusal.{Refusal}
use Rattle.retro_base.specs.declared.refusal.Refusal.TheVariants as refusal
use Rattle.sql_lexer.specs.declared.token.Ending.{Ending}
use Rattle.sql_lexer.specs.declared.token.Ending.TheVariants.{Whole, BadByte, Unclosed}
use Rattle.sql_lexer.specs.declared.token.Placed.{Placed}
use Rattle.sql_lexer.specs.declared.token.Token.{Token}
use Rattle.sql_lexer.specs.Lexes.{Lexes}
use Rattle.sql_tree.specs.Statement.{IsSelect, IsStatement}
use Rattle.sql_parts.specs.declared.action.Op.{Op}
use Rattle.sql_grammar.specs.declared.grammar.Rule.TheVariants as rule
use Rattle.sql_parts.specs.declared.parsed.Parsed.{Parsed}
use Rattle.sql_parts.specs.declared.parsed.Parsed.TheVariants.{Plain, AsOf, Commit, Rollback, DropBelow, Rql}
use Rattle.sql_build.specs.Built.{built}
use Rattle.sql_grammar.specs.Derivation.{IsSentence, Reaches, Breaks}
use Rattle.sql_text.specs.Places.{place_at, tokens_of}

-- the tokens are a sentence that says so
abbrev pub Says : List Token → Parsed → Type 0
Says ts p = (os : List Op) × IsSentence rule.Sentence ts os × (built os ≡ Some p)

-- the line says so
abbrev pub Spells : List ℕ → Parsed → Type 0
Spells line p = (ts : List Placed) × Lexes 0 line ts Whole × Says (tokens_of ts) p

-- The place at which the syntax of the tokens of a line breaks: a byte of no token before all else, then the first
-- token with which those so far begin no sentence, and then the line's end.
abbrev pub FaultAt : List Placed → Ending → ℕ → ℕ → Type 0
FaultAt ts Whole end place = (count : ℕ) × Breaks rule.Sentence (tokens_of ts) count × (place ≡ place_at ts count end)
FaultAt ts (BadByte bad) end place = place ≡ bad
FaultAt ts Unclosed end place = (count : ℕ) × Reaches rule.Sentence (tokens_of ts) count
    × (place ≡ place_at ts count end)

-- the syntax of the line breaks at the place
abbrev pub SyntaxAt : List ℕ → ℕ → Type 0
SyntaxAt line place = (ts : List Placed) × (ending : Ending) × Lexes 0 line ts ending
    × FaultAt ts ending (length line) place

-- what a line may be refused for
abbrev pub IsRefused : List ℕ → Refusal → Type 0
IsRefused line refusal.OutOfMemory = Unit {0}
IsRefused line (refusal.Syntax place) = SyntaxAt line place
IsRefused line _ = ⊥

-- the limits of a statement and of a label
abbrev pub HasLimits : Parsed → Type 0
HasLimits (Plain s) = IsStatement s
HasLimits (AsOf q) = IsSelect q.query
HasLimits (Commit None) = Unit {0}
HasLimits (Commit (Some label)) = length label ≤ LABEL_BYTES
HasLimits Rollback = Unit {0}
HasLimits (DropBelow n) = Unit {0}
HasLimits (Rql c) = Unit {0}

-- a line whose syntax breaks says nothing
abbrev pub BrokenLinesSayNothing : Type 0
BrokenLinesSayNothing = (line : List ℕ) (place : ℕ) (p : Parsed) → SyntaxAt line place → Spells line p → ⊥

-- the syntax of a line breaks at one place at most
abbrev pub LinesBreakAtOnePlace : Type 0
LinesBreakAtOnePlace = (line : List ℕ) (a b : ℕ) → SyntaxAt line a → SyntaxAt line b → a ≡ b
