-- Every list of fine symbols can be finished, so what was read begins a sentence.
use Rattle.std.proofs.Common.{◌≡◌, ◌≢◌, ◌<◌, ℕ, zero, suc, Bool, true, false, List, [], ◌∷◌, ◌++◌, nat_lt, ◌&&◌, refl, pos, arith, replicate}
use Rattle.std.proofs.lemmas.Bool.{ltb-true}
use Rattle.sql_lexer.specs.declared.token.Token.{Token}
use Rattle.sql_lexer.specs.declared.token.Token.TheVariants as token
use Rattle.sql_grammar.specs.declared.grammar.Class.{Class}
use Rattle.sql_grammar.specs.declared.grammar.Class.TheVariants as class
use Rattle.sql_parts.specs.declared.action.Action.{Action}
use Rattle.sql_parts.specs.declared.action.Op.{Op}
use Rattle.sql_parts.specs.declared.action.Op.TheVariants.{Act}
use Rattle.sql_grammar.specs.declared.grammar.Room.TheVariants.{One}
use Rattle.sql_grammar.specs.declared.grammar.Rule.{Rule}
use Rattle.sql_grammar.specs.declared.grammar.Rule.TheVariants as rule
use Rattle.sql_grammar.specs.declared.grammar.Symbol.{Symbol}
use Rattle.sql_grammar.specs.declared.grammar.Symbol.TheVariants.{Take, Put, Use}
use Rattle.sql_grammar.specs.Derivation.{Derives, Done, Taken, Emitted, Replaced}
use Rattle.sql_grammar.specs.Grammar.{class_of, content_of, sides}
use Rattle.sql_grammar.specs.Machine.{IsFine}
use Rattle.sql_grammar.specs.Table.{pick}
use Rattle.sql_grammar.proofs.Tables.{side-IsIn}
use Rattle.sql_parts.proofs.Common.{both_left, both_right}

-- the index of a right side that uses only rules of less depth
abbrev brief : Rule → ℕ
brief rule.Sentence = 6
brief rule.Created = 1
brief (rule.MoreColumns room) = 1
brief rule.MoreValues = 1
brief rule.MoreTuples = 1
brief rule.MoreAssignments = 1
brief rule.Where = 1
brief rule.MoreOutputs = 1
brief rule.Grouping = 1
brief rule.MoreGroups = 1
brief rule.Ordering = 1
brief rule.MoreKeys = 1
brief rule.MoreTerms = 2
brief rule.MoreFactors = 1
brief rule.Factor = 1
brief rule.MoreConjunctions = 1
brief rule.MoreNegations = 1
brief rule.Negation = 2
brief rule.SnapshotChoice = 1
brief _ = 0

abbrev depth : Rule → ℕ
depth rule.Column = 1
depth rule.Tuple = 1
depth rule.Assignment = 5
depth rule.Selected = 3
depth rule.Query = 2
depth rule.Output = 2
depth rule.OutputValue = 1
depth rule.Clauses = 1
depth rule.Key = 2
depth rule.Value = 4
depth rule.Expression = 3
depth rule.Term = 2
depth rule.Factor = 1
depth rule.ColumnName = 1
depth rule.Condition = 4
depth rule.Conjunction = 3
depth rule.Negation = 2
depth rule.Compared = 1
depth _ = 0

abbrev is_below : ℕ → List Symbol → Bool
is_below d [] = true
is_below d (Take class.End ∷ ss) = false
is_below d (Take k ∷ ss) = is_below d ss
is_below d (Put a ∷ ss) = is_below d ss
is_below d (Use r ∷ ss) = nat_lt (depth r) d && is_below d ss

-- the computed check
brief_is_below : (r : Rule) → is_below (depth r) (pick (brief r) (sides r)) ≡ true
brief_is_below rule.Sentence = refl
brief_is_below (rule.MoreColumns One) = refl
brief_is_below _ = refl

-- some tokens follow from the symbols
abbrev pub Finishes : List Symbol → Type 0
Finishes ss = (ts : List Token) × (os : List Op) × Derives ss ts os

sample : (k : Class) → k ≢ class.End → (t : Token) × (class_of t ≡ k)
sample (class.Keyword k) n = (token.Keyword k, refl)
sample (class.Sign s) n = (token.Sign s, refl)
sample class.Name n = (token.Name (97 ∷ []), refl)
sample class.LongWord n = (token.LongWord, refl)
sample class.Integer n = (token.Integer (pos 0), refl)
sample class.BigInteger n = (token.BigInteger, refl)
sample class.ShortText n = (token.Text [], refl)
sample class.Text n = (token.Text (replicate 65 97), refl)
sample class.LongText n = (token.LongText [], refl)
sample class.End n = absurd (n refl)

take_one : (k : Class) (ss : List Symbol) → k ≢ class.End → Finishes ss → Finishes (Take k ∷ ss)
take_one k ss n e = let s = sample k n in (s.0 ∷ e.0, content_of s.0 ++ e.1, Taken s.1 refl e.2)

put_one : (a : Action) (ss : List Symbol) → Finishes ss → Finishes (Put a ∷ ss)
put_one a ss e = (e.0, Act a ∷ e.1, Emitted e.2)

side_finishes : (d : ℕ) → ((r : Rule) (ss : List Symbol) → depth r < d → Finishes ss → Finishes (Use r ∷ ss))
    → (side ss : List Symbol) → is_below d side ≡ true → Finishes ss → Finishes (side ++ ss)
side_finishes d rules [] ss h e = e
side_finishes d rules (Take class.End ∷ side) ss h e = cc
side_finishes d rules (Take k ∷ side) ss h e = take_one k (side ++ ss) (λ q. cc) (side_finishes d rules side ss h e)
side_finishes d rules (Put a ∷ side) ss h e = put_one a (side ++ ss) (side_finishes d rules side ss h e)
side_finishes d rules (Use r ∷ side) ss h e =
    let lower = both_left (nat_lt (depth r) d) (is_below d side) h in
    rules r (side ++ ss) (ltb-true (depth r) d lower) (side_finishes d rules side ss (both_right (nat_lt (depth r) d) (is_below d side) h) e)

rule_finishes : (d : ℕ) (r : Rule) (ss : List Symbol) → depth r < d → Finishes ss → Finishes (Use r ∷ ss)
rule_finishes zero r ss h e = absurd (omega arith)
rule_finishes (suc d) r ss h e =
    let side = pick (brief r) (sides r) in
    let f = side_finishes (depth r) (λ q more lower g. rule_finishes d q more (omega arith) g) side ss (brief_is_below r) e in
    (f.0, f.1, Replaced side (side-IsIn (brief r) r) f.2)

pub finishes : (ss : List Symbol) → IsFine ss → Finishes ss
finishes [] w = ([], [], Done)
finishes (Take k ∷ ss) w = take_one k ss w.0 (finishes ss w.1)
finishes (Put a ∷ ss) w = put_one a ss (finishes ss w)
finishes (Use r ∷ ss) w = rule_finishes (suc (depth r)) r ss (omega arith) (finishes ss w.1)
