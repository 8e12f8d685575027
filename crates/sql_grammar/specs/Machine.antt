-- What the machine that reads a sentence keeps.
use Rattle.std.specs.Prelude.{◌≡◌, ◌≢◌, ◌+◌, ℕ, suc, Bool, true, false, Option}
use Rattle.std.specs.Prelude.{Some, None, List, [], ◌∷◌, ◌++◌, if◌then◌else◌}
use Rattle.sql_lexer.specs.declared.token.Token.{Token}
use Rattle.sql_grammar.specs.declared.grammar.Class.{Class}
use Rattle.sql_grammar.specs.declared.grammar.Class.TheVariants.{End}
use Rattle.sql_parts.specs.declared.action.Op.{Op}
use Rattle.sql_grammar.specs.declared.grammar.Rule.{Rule}
use Rattle.sql_grammar.specs.declared.grammar.Symbol.{Symbol}
use Rattle.sql_grammar.specs.declared.grammar.Symbol.TheVariants.{Take, Put, Use}
use Rattle.sql_grammar.specs.Derivation.{Derives, IsIn, IsSentence, Begins}
use Rattle.sql_grammar.specs.Grammar.{class_of}
use Rattle.sql_grammar.specs.Table.{first, follow, level, null}

-- the class of the next token, or the end
abbrev pub look : List Token → Class
look [] = End
look (t ∷ ts) = class_of t

-- the classes that the symbols, and then the end, may begin with
abbrev pub heads : List Symbol → List Class
heads [] = End ∷ []
heads (Take k ∷ ss) = k ∷ []
heads (Put a ∷ ss) = heads ss
heads (Use r ∷ ss) = first r ++ (if null r then heads ss else [])

-- only tokens are taken, and what comes behind a rule may follow it
abbrev pub IsFine : List Symbol → Type 0
IsFine [] = Unit {0}
IsFine (Take k ∷ ss) = (k ≢ End) × IsFine ss
IsFine (Put a ∷ ss) = IsFine ss
IsFine (Use r ∷ ss) = ((k : Class) → IsIn k (heads ss) → IsIn k (follow r)) × IsFine ss

-- where a token of the class comes next, the symbols stand for what may come behind the tokens so far
pub record Continues (r : Rule) (so_far : List Token) (k : Class) (ss : List Symbol) (ops : List Op) : Type 0 where
  pub sound : (ts : List Token) (os : List Op) → Derives ss ts os → IsSentence r (so_far ++ ts) (ops ++ os)
  pub whole : (ts : List Token) (os : List Op) → look ts ≡ k → IsSentence r (so_far ++ ts) os → (rest : List Op)
      × (os ≡ ops ++ rest) × Derives ss ts rest
  pub fine : IsFine ss

-- the same, whatever comes next
abbrev pub Stands : Rule → List Token → List Symbol → List Op → Type 0
Stands r so_far ss ops = (k : Class) → Continues r so_far k ss ops

-- a token of the class is wanted next, or none
abbrev pub Wants : Option Class → Rule → List Token → Class → List Symbol → List Op → Type 0
Wants (Some wanted) r so_far k ss ops = Continues r so_far k (Take wanted ∷ ss) ops
Wants None r so_far k ss ops = Continues r so_far k [] ops

-- the token was taken, or begins no sentence
abbrev pub Takes : Bool → Rule → List Token → Token → List Symbol → List Op → Type 0
Takes true r so_far t ss ops = Stands r (so_far ++ t ∷ []) ss ops
Takes false r so_far t ss ops = Begins r (so_far ++ t ∷ []) → ⊥

-- the tokens so far are a sentence in one way, or in none
abbrev pub Ends : Bool → Rule → List Token → List Op → Type 0
Ends true r so_far ops = IsSentence r so_far ops × ((others : List Op) → IsSentence r so_far others → others ≡ ops)
Ends false r so_far ops = (os : List Op) → IsSentence r so_far os → ⊥

-- a bound on the steps before a token is taken
abbrev pub rank : List Symbol → ℕ
rank [] = 0
rank (Take k ∷ ss) = 0
rank (Put a ∷ ss) = suc (rank ss)
rank (Use r ∷ ss) = level r + (if null r then rank ss else 0)
