-- What a sentence puts out has a spelling.
use Rattle.std.proofs.Common.{◌≡◌, ◌∙◌, ◌++◌, inl, inr, ℕ, Bool, true, false, List, [], ◌∷◌, ◌&&◌, refl, sym, ap, subst}
use Rattle.std.specs.List.{AllByRecursion}
use Rattle.std.specs.Str.Parse.{digits_value}
use Rattle.sql_lexer.specs.declared.token.Ending.{Ending}
use Rattle.sql_lexer.specs.declared.token.Placed.{Placed}
use Rattle.sql_lexer.specs.declared.token.Token.{Token}
use Rattle.sql_lexer.specs.declared.token.Token.TheVariants as token'
use Rattle.sql_lexer.specs.Lexes.{Lexes, whole, blank, token, bad_byte, unclosed}
use Rattle.sql_lexer.specs.Token.{Spells}
use Rattle.sql_grammar.specs.declared.grammar.Class.{Class}
use Rattle.sql_grammar.specs.declared.grammar.Class.TheVariants as class
use Rattle.sql_parts.specs.declared.action.Op.{Op}
use Rattle.sql_grammar.specs.declared.grammar.Room.TheVariants.{One}
use Rattle.sql_grammar.specs.declared.grammar.Rule.{Rule}
use Rattle.sql_grammar.specs.declared.grammar.Rule.TheVariants as rule
use Rattle.sql_grammar.specs.declared.grammar.Symbol.{Symbol}
use Rattle.sql_grammar.specs.declared.grammar.Symbol.TheVariants.{Take, Put, Use}
use Rattle.sql_grammar.specs.Derivation.{Derives, Done, Taken, Emitted, Replaced, IsIn}
use Rattle.sql_grammar.specs.Grammar.{class_of, content_of, sides}
use Rattle.sql_parts.proofs.Common.{both_left, both_right}
use Rattle.sql_text.specs.Places.{tokens_of}
use Rattle.print_laws.specs.Spelt.{HasSpelling}
use Rattle.print_laws.proofs.Drafts.{OpFits}

-- no right side takes a word that is too long or a number that is too great
abbrev is_plain : Class → Bool
is_plain class.LongWord = false
is_plain class.BigInteger = false
is_plain _ = true

abbrev all_plain : List Symbol → Bool
all_plain [] = true
all_plain (Take k ∷ ss) = is_plain k && all_plain ss
all_plain (Put a ∷ ss) = all_plain ss
all_plain (Use r ∷ ss) = all_plain ss

abbrev plain_sides : List (List Symbol) → Bool
plain_sides [] = true
plain_sides (s ∷ ss) = all_plain s && plain_sides ss

rules_plain : (r : Rule) → plain_sides (sides r) ≡ true
rules_plain (rule.MoreColumns One) = refl
rules_plain (rule.MoreColumns room) = refl
rules_plain rule.Sentence = refl
rules_plain _ = refl

side_plain : (all : List (List Symbol)) (side : List Symbol) → plain_sides all ≡ true → IsIn side all → all_plain side ≡ true
side_plain [] side h i = absurd i
side_plain (s ∷ ss) side h (inl e) = ap all_plain e ∙ both_left (all_plain s) (plain_sides ss) h
side_plain (s ∷ ss) side h (inr i) = side_plain ss side (both_right (all_plain s) (plain_sides ss) h) i

plain-append : (xs ys : List Symbol) → all_plain xs ≡ true → all_plain ys ≡ true → all_plain (xs ++ ys) ≡ true
plain-append [] ys e f = f
plain-append (Take k ∷ xs) ys e f = and (is_plain k) (all_plain (xs ++ ys)) (both_left (is_plain k) (all_plain xs) e) (plain-append xs ys (both_right (is_plain k) (all_plain xs) e) f)
  where
    and : (a b : Bool) → a ≡ true → b ≡ true → (a && b) ≡ true
    and true b h k = k
    and false b h k = cc
plain-append (Put a ∷ xs) ys e f = plain-append xs ys e f
plain-append (Use r ∷ xs) ys e f = plain-append xs ys e f

-- some bytes spell the token
abbrev pub IsSpelt : Token → Type 0
IsSpelt t = (bytes : List ℕ) × Spells bytes t

plain_has : (t : Token) → IsSpelt t → is_plain (class_of t) ≡ true → HasSpelling t
plain_has (token'.Keyword k) s e = tt
plain_has (token'.Name n) s e = subst (λ b. HasSpelling (token'.Name b)) (sym s.1.2) (s.1.0, s.1.1)
plain_has token'.LongWord s e = cc
plain_has (token'.Integer n) s e = (digits_value 10 s.0, s.1.2, s.1.1)
plain_has token'.BigInteger s e = cc
plain_has (token'.Text t) s e = s.1.1
plain_has (token'.LongText t) s e = (s.1.1, s.1.2)
plain_has (token'.Sign k) s e = tt

content_fits : (t : Token) (os : List Op) → HasSpelling t → AllByRecursion OpFits os → AllByRecursion OpFits (content_of t ++ os)
content_fits (token'.Keyword k) os s h = h
content_fits (token'.Name n) os s h = (s, h)
content_fits token'.LongWord os s h = h
content_fits (token'.Integer n) os s h = (s, h)
content_fits token'.BigInteger os s h = h
content_fits (token'.Text t) os s h = (s, h)
content_fits (token'.LongText t) os s h = (s.0, h)
content_fits (token'.Sign k) os s h = h

pub derived_fits : {ss : List Symbol} {ts : List Token} {os : List Op} → Derives ss ts os → all_plain ss ≡ true → AllByRecursion IsSpelt ts → AllByRecursion OpFits os
derived_fits Done p s = tt
derived_fits (Taken {k} {ss} {t} {ts} {os} q o d) p s =
    let has = plain_has t s.0 (ap is_plain q ∙ both_left (is_plain k) (all_plain ss) p) in
    subst (AllByRecursion OpFits) (sym o) (content_fits t os has (derived_fits d (both_right (is_plain k) (all_plain ss) p) s.1))
derived_fits (Emitted d) p s = (tt, derived_fits d p s)
derived_fits (Replaced {r} side {ss} i d) p s = derived_fits d (plain-append side ss (side_plain (sides r) side (rules_plain r) i) p) s

pub sentence_fits : {ts : List Token} {os : List Op} → Derives (Use rule.Sentence ∷ []) ts os → AllByRecursion IsSpelt ts → AllByRecursion OpFits os
sentence_fits d s = derived_fits d refl s

-- the tokens of a line are spelt
pub lexed_spelt : {place : ℕ} {bytes : List ℕ} {tokens : List Placed} {ending : Ending} → Lexes place bytes tokens ending → AllByRecursion IsSpelt (tokens_of tokens)
lexed_spelt whole = tt
lexed_spelt (blank e d) = lexed_spelt d
lexed_spelt (token t spelt rest e s ends d) = ((spelt, s), lexed_spelt d)
lexed_spelt (bad_byte bad) = tt
lexed_spelt (unclosed u) = tt
