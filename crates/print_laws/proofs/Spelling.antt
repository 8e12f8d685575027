-- The bytes of a line are its tokens.
use Rattle.std.proofs.Common.{◌≡◌, ◌<◌, ◌≤◌, ◌+◌, ◌^◌, ◌&&◌, ℕ, pos, Bool, true, false, List, [], ◌∷◌, length, unsigned_abs, refl, sym, ap, subst, arith}
use Rattle.std.specs.Char.{is_ascii_digit}
use Rattle.std.specs.Fmt.{decimal}
use Rattle.std.specs.List.{AllByRecursion, list_all}
use Rattle.std.specs.Str.Parse.{AllDigits, IsNumeral}
use Rattle.std.proofs.lemmas.Bool.Decides.{nat_tests}
use Rattle.std.proofs.lemmas.Fmt.{decimal_is_IsNumeral}
use Rattle.std.proofs.lemmas.Str.Parse.{tells_digits}
use Rattle.sql_lexer.specs.declared.token.Ending.TheVariants.{Whole}
use Rattle.sql_lexer.specs.declared.token.Keyword.{Keyword}
use Rattle.sql_lexer.specs.declared.token.Keyword.TheVariants as keyword
use Rattle.sql_lexer.specs.declared.token.Placed.{Placed}
use Rattle.sql_lexer.specs.declared.token.Sign.TheVariants as sign
use Rattle.sql_lexer.specs.declared.token.Token.{Token}
use Rattle.sql_lexer.specs.declared.token.Token.TheVariants as token'
use Rattle.sql_lexer.specs.Lexes.{HasOneReading, Lexes, whole, blank, token}
use Rattle.sql_lexer.specs.Token.{goes_on, IsNumber, spelling, Spells}
use Rattle.sql_parts.specs.declared.parsed.Parsed.{Parsed}
use Rattle.sql_text.specs.Line.{HasLimits, Says, Spells as SpellsLine}
use Rattle.sql_text.specs.Places.{tokens_of}
use Rattle.print_laws.specs.Printed.{printed}
use Rattle.print_laws.specs.Spelt.{HasSpelling, IsSpellable, line_of, spaced, spelt}
use Rattle.print_laws.proofs.Lines.{printed_says}
use Rattle.print_laws.proofs.Once.{says_once}

-- a keyword is spelt by its word in capitals
word_is : (k : Keyword) → Spells (spelling k) (token'.Keyword k)
word_is keyword.And = ((refl, refl, omega arith), refl)
word_is _ = ((refl, refl, omega arith), refl)

digit : (c : ℕ) → 48 ≤ c → c ≤ 57 → is_ascii_digit c ≡ true
digit c a b = grind (arith, nat_tests)

both_true : (a b : Bool) → a ≡ true → b ≡ true → (a && b) ≡ true
both_true true b e f = f
both_true false b e f = cc

all_digits : (ds : List ℕ) → AllDigits 10 ds → list_all is_ascii_digit ds ≡ true
all_digits [] h = refl
all_digits (c ∷ cs) h =
    let r = tells_digits.parts c cs h in
    both_true (is_ascii_digit c) (list_all is_ascii_digit cs) (digit c r.0.0 r.0.1) (all_digits cs r.1)

is_number : (ds : List ℕ) → IsNumeral 10 ds → IsNumber ds
is_number [] h = absurd (omega (arith, h.0))
is_number (c ∷ cs) h = all_digits (c ∷ cs) h.1

number_is : (m : ℕ) → m < 2 ^ 63 → Spells (decimal m) (token'.Integer (pos m))
number_is m h =
    let d = decimal_is_IsNumeral m (omega (arith, h)) in
    let P : ℕ → Type 0 = λ n. n < 2 ^ 63 in
    (is_number (decimal m) d.0, subst P (sym d.1) h, ap pos (sym d.1))

spells : (t : Token) → HasSpelling t → Spells (spelt t) t
spells (token'.Keyword k) h = word_is k
spells (token'.Name n) h = (h.0, h.1, refl)
spells token'.LongWord h = absurd h
spells (token'.Integer n) h =
    let P : _ → Type 0 = λ i. Spells (decimal (unsigned_abs i)) (token'.Integer i) in
    subst P (sym h.1) (number_is h.0 h.2)
spells token'.BigInteger h = absurd h
spells (token'.Text t) h = (refl, h)
spells (token'.LongText t) h = (refl, h.0, h.1)
spells (token'.Sign s) h = refl

-- a blank goes on with no token
blank_ends : (t : Token) → goes_on t 32 ≡ false
blank_ends (token'.Keyword k) = refl
blank_ends (token'.Name n) = refl
blank_ends token'.LongWord = refl
blank_ends (token'.Integer n) = refl
blank_ends token'.BigInteger = refl
blank_ends (token'.Text t) = refl
blank_ends (token'.LongText t) = refl
blank_ends (token'.Sign sign.Less) = refl
blank_ends (token'.Sign s) = refl

placed : ℕ → List Token → List Placed
placed place [] = []
placed place (t ∷ ts) = record { token = t; place = place } ∷ placed (place + length (spelt t) + 1) ts

tokens_of_placed : (place : ℕ) (ts : List Token) → tokens_of (placed place ts) ≡ ts
unfolding placed
tokens_of_placed place [] = refl
tokens_of_placed place (t ∷ ts) = ap (λ x. t ∷ x) (tokens_of_placed (place + length (spelt t) + 1) ts)

lexes : (place : ℕ) (ts : List Token) → AllByRecursion HasSpelling ts → Lexes place (spaced ts) (placed place ts) Whole
unfolding placed
lexes place [] h = whole
lexes place (t ∷ ts) h = token t (spelt t) (32 ∷ spaced ts) refl (spells t h.0) (blank_ends t) (blank refl (lexes (place + length (spelt t) + 1) ts h.1))

pub line_says : (p : Parsed) → HasLimits p → IsSpellable p → SpellsLine (line_of p) p
line_says p h s =
    let P : List Token → Type 0 = λ ts. Says ts p in
    (placed 0 (printed p), lexes 0 (printed p) s, subst P (sym (tokens_of_placed 0 (printed p))) (printed_says p h))

pub line_once : HasOneReading → (line : List ℕ) (p q : Parsed) → SpellsLine line p → SpellsLine line q → q ≡ p
line_once one line p q a b =
    let P : List Placed → Type 0 = λ ts. Says (tokens_of ts) q in
    says_once (tokens_of a.0) p q a.2 (subst P ((one line b.0 a.0 Whole Whole b.1 a.1).0) b.2)
