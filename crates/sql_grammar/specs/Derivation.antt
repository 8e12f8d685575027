-- The sentences of a grammar, and where a list of tokens stops to begin one.
use Rattle.std.specs.Prelude.{◌≡◌, ◌<◌, ◌≤◌, ◌+◌, ◌⊎◌, ℕ, List, [], ◌∷◌, ◌++◌, length, take}
use Rattle.sql_lexer.specs.declared.token.Token.{Token}
use Rattle.sql_parts.specs.declared.action.Action.{Action}
use Rattle.sql_grammar.specs.declared.grammar.Class.{Class}
use Rattle.sql_parts.specs.declared.action.Op.{Op}
use Rattle.sql_parts.specs.declared.action.Op.TheVariants.{Act}
use Rattle.sql_grammar.specs.declared.grammar.Rule.{Rule}
use Rattle.sql_grammar.specs.declared.grammar.Symbol.{Symbol}
use Rattle.sql_grammar.specs.declared.grammar.Symbol.TheVariants.{Take, Put, Use}
use Rattle.sql_grammar.specs.Grammar.{class_of, content_of, sides}

-- the item stands in the list
abbrev pub IsIn : {X : Type 0} → X → List X → Type 0
IsIn x [] = ⊥
IsIn x (y ∷ ys) = (x ≡ y) ⊎ IsIn x ys

-- From the symbols these tokens follow, and these operations come out: a rule stands for any of its right sides.
pub data Derives : List Symbol → List Token → List Op → Type 0 where
  Done : Derives [] [] []
  Taken : {k : Class} {ss : List Symbol} {t : Token} {ts : List Token} {os out : List Op} → class_of t ≡ k →
      out ≡ content_of t ++ os → Derives ss ts os → Derives (Take k ∷ ss) (t ∷ ts) out
  Emitted : {a : Action} {ss : List Symbol} {ts : List Token} {os : List Op} → Derives ss ts os →
      Derives (Put a ∷ ss) ts (Act a ∷ os)
  Replaced : {r : Rule} (side : List Symbol) {ss : List Symbol} {ts : List Token} {os : List Op} → IsIn side (sides r) →
      Derives (side ++ ss) ts os → Derives (Use r ∷ ss) ts os

-- the tokens are a sentence of the rule, and these operations come out
abbrev pub IsSentence : Rule → List Token → List Op → Type 0
IsSentence r ts os = Derives (Use r ∷ []) ts os

-- the tokens begin a sentence
abbrev pub Begins : Rule → List Token → Type 0
Begins r ts = (more : List Token) × (os : List Op) × IsSentence r (ts ++ more) os

-- the first tokens, so many of them, begin a sentence, and with one more they begin none
pub record Reaches (r : Rule) (ts : List Token) (count : ℕ) : Type 0 where
  pub within : count ≤ length ts
  pub before : Begins r (take count ts)
  pub refused : count < length ts → Begins r (take (count + 1) ts) → ⊥

-- the tokens are no sentence, and this many of them begin one: all of them where the line ends too early
pub record Breaks (r : Rule) (ts : List Token) (count : ℕ) : Type 0 where
  pub reaches : Reaches r ts count
  pub early : count ≡ length ts → (os : List Op) → IsSentence r ts os → ⊥
