-- What the parts of reading a line give.
use Rattle.std.specs.Prelude.{◌≡◌, ◌<◌, ℕ, List, length}
use Rattle.retro_base.specs.declared.refusal.Refusal.{Refusal}
use Rattle.retro_base.specs.declared.refusal.Refusal.TheVariants.{OutOfMemory, Syntax}
use Rattle.sql_lexer.specs.declared.token.Lexed.{Lexed}
use Rattle.sql_lexer.specs.declared.token.Placed.{Placed}
use Rattle.sql_lexer.specs.declared.token.Token.{Token}
use Rattle.sql_parts.specs.declared.action.Op.{Op}
use Rattle.sql_grammar.specs.declared.grammar.Rule.TheVariants as rule
use Rattle.sql_parts.specs.declared.parsed.Parsed.{Parsed}
use Rattle.sql_grammar.specs.Derivation.{IsSentence, Reaches}
use Rattle.sql_text.specs.Line.{FaultAt, HasLimits, Says}
use Rattle.sql_text.specs.Places.{place_at, tokens_of}

-- the tokens say this alone, within the limits
pub record IsSaid (ts : List Token) (p : Parsed) : Type 0 where
  pub says : Says ts p
  pub only : (q : Parsed) → Says ts q → q ≡ p
  pub limits : HasLimits p

-- the token at the place is the first with which those so far begin no sentence
abbrev pub StopsAt : List Placed → ℕ → Type 0
StopsAt ts place = (count : ℕ) × (count < length ts) × Reaches rule.Sentence (tokens_of ts) count
    × ((end : ℕ) → place ≡ place_at ts count end)

-- why tokens were not taken
abbrev pub IsRefusedAmong : List Placed → Refusal → Type 0
IsRefusedAmong ts OutOfMemory = Unit {0}
IsRefusedAmong ts (Syntax place) = StopsAt ts place
IsRefusedAmong ts _ = ⊥

-- why tokens that were taken say nothing
abbrev pub IsRefusedEarly : List Token → ℕ → Refusal → Type 0
IsRefusedEarly ts end OutOfMemory = Unit {0}
IsRefusedEarly ts end (Syntax place) = (place ≡ end) × ((os : List Op) → IsSentence rule.Sentence ts os → ⊥)
IsRefusedEarly ts end _ = ⊥

-- why the tokens of a line with this end say nothing
abbrev pub IsRefusedFor : Lexed → ℕ → Refusal → Type 0
IsRefusedFor lexed end OutOfMemory = Unit {0}
IsRefusedFor lexed end (Syntax place) = FaultAt lexed.tokens lexed.ending end place
IsRefusedFor lexed end _ = ⊥
