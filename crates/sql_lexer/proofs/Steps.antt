-- From what stands at the front of the rest of a line to the tokens of the rest.
use Rattle.std.proofs.Common.{◌≡◌, ◌∙◌, ◌+◌, ◌-◌, ◌<◌, ◌≤◌, ◌≢◌, ℕ, suc, true, false, List, [], ◌∷◌, ◌++◌, length, take, drop, get_or, sym, ap, subst, add-one, arith, take-append-drop, drop-cons}
use Rattle.std.specs.List.{AllByRecursion}
use Rattle.std.specs.Char.{is_ascii_digit}
use Rattle.std.proofs.lemmas.List.{take_rest, drop-drop, drop_all, length-take-le}
use Rattle.values.specs.Name.{begins_word}
use Rattle.values.specs.Text.{IsPrintable}
use Rattle.sql_lexer.specs.declared.lexer.Front.{Front}
use Rattle.sql_lexer.specs.declared.lexer.Front.TheVariants.{Blank, Token as TokenFront, BadByte as BadFront, Unclosed as UnclosedFront}
use Rattle.sql_lexer.specs.declared.token.Token.{Token}
use Rattle.sql_lexer.specs.declared.token.Token.TheVariants.{Keyword, Name, LongWord, Integer, BigInteger, Text, LongText, Sign as SignToken}
use Rattle.sql_lexer.specs.declared.token.Sign.{Sign}
use Rattle.sql_lexer.specs.declared.token.Placed.{Placed}
use Rattle.sql_lexer.specs.declared.token.Ending.{Ending}
use Rattle.sql_lexer.specs.declared.token.Ending.TheVariants.{Whole, BadByte, Unclosed}
use Rattle.sql_lexer.specs.Front.{IsFront, IsFirstToken}
use Rattle.sql_lexer.specs.Lexes.{Lexes, whole, blank, token, bad_byte, unclosed, is_blank, IsBadAt, outside, inside}
use Rattle.sql_lexer.specs.Token.{Spells, quote, doubled, sign_bytes}

-- the rest of the line from a place on
abbrev rest_from : List ℕ → ℕ → List ℕ
rest_from line place = take (length line - place) (drop place line)

-- what a front says of the rest of the line
front_of_rest : (line : List ℕ) (place : ℕ) (f g : Front) → IsFront (rest_from line place) f → f ≡ g → IsFront (drop place line) g
front_of_rest line place f g h is =
    let k : IsFront (drop place line) f = subst (λ bytes. IsFront bytes f) (take_rest line place) h in
    subst (IsFront (drop place line)) is k

pub blank_at : (line : List ℕ) (place : ℕ) (f : Front) → place < length line → IsFront (rest_from line place) f → f ≡ Blank
    → (tokens : List Placed) (ending : Ending) → Lexes (place + 1) (drop (place + 1) line) tokens ending → Lexes place (drop place line) tokens ending
blank_at line place f lt h is tokens ending rest =
    let cut : drop place line ≡ get_or line place 0 ∷ drop (place + 1) line = rw add-one (drop-cons line place 0 lt) in
    let first : is_blank (get_or line place 0) ≡ true = ap (λ bytes. is_blank (get_or bytes 0 0)) (sym cut) ∙ front_of_rest line place f Blank h is in
    subst (λ bytes. Lexes place bytes tokens ending) (sym cut) (blank first rest)

pub token_at : (line : List ℕ) (place : ℕ) (f : Front) (t : Token) (count : ℕ) → IsFront (rest_from line place) f → f ≡ TokenFront t count
    → (tokens : List Placed) (ending : Ending) → Lexes (place + count) (drop (place + count) line) tokens ending → Lexes place (drop place line) (record { token = t; place = place } ∷ tokens) ending
token_at line place f t count h is tokens ending rest =
    let bytes : List ℕ = drop place line in
    let first : IsFirstToken bytes t count = front_of_rest line place f (TokenFront t count) h is in
    let taken : length (take count bytes) ≡ count = length-take-le count bytes first.within in
    let left : drop (place + count) line ≡ drop count bytes = sym (drop-drop count place line) in
    let next : Lexes (place + count) (drop count bytes) tokens ending = subst (λ x. Lexes (place + count) x tokens ending) left rest in
    token t (take count bytes) (drop count bytes) (sym (take-append-drop count bytes)) first.spelt first.longest
    (subst (λ n. Lexes (place + n) (drop count bytes) tokens ending) (sym taken) next)

pub token_within : (line : List ℕ) (place : ℕ) (f : Front) (t : Token) (count : ℕ) → IsFront (rest_from line place) f → f ≡ TokenFront t count → IsFirstToken (drop place line) t count
token_within line place f t count h is = front_of_rest line place f (TokenFront t count) h is

pub bad_byte_at : (line : List ℕ) (place : ℕ) (f : Front) (offset : ℕ) → IsFront (rest_from line place) f → f ≡ BadFront offset → Lexes place (drop place line) [] (BadByte (place + offset))
bad_byte_at line place f offset h is = bad_byte (front_of_rest line place f (BadFront offset) h is).1

pub unclosed_at : (line : List ℕ) (place : ℕ) (f : Front) → IsFront (rest_from line place) f → f ≡ UnclosedFront → Lexes place (drop place line) [] Unclosed
unclosed_at line place f h is = unclosed (front_of_rest line place f UnclosedFront h is)

pub whole_at : (line : List ℕ) (place : ℕ) → length line ≤ place → Lexes place (drop place line) [] Whole
whole_at line place le = subst (λ bytes. Lexes place bytes [] Whole) (sym (drop_all place line le)) whole

-- a byte in a text that is not printable
pub bad_inside : (bytes text : List ℕ) (n : ℕ) → n < length bytes → take n bytes ≡ quote ∷ doubled text → AllByRecursion IsPrintable text → (IsPrintable (get_or bytes n 0) → ⊥) → IsBadAt n bytes
bad_inside bytes text n lt so_far printable bad =
    let cut : bytes ≡ quote ∷ doubled text ++ get_or bytes n 0 ∷ drop (suc n) bytes =
    sym (take-append-drop n bytes) ∙ ap (λ x. x ++ drop n bytes) so_far ∙ ap (λ x. (quote ∷ doubled text) ++ x) (drop-cons bytes n 0 lt) in
    let at : 1 + length (doubled text) ≡ n = omega (arith, ap length so_far, length-take-le n bytes (omega arith)) in
    subst (λ k. IsBadAt k bytes) at (inside text (get_or bytes n 0) (drop (suc n) bytes) printable bad cut)

-- a byte that is of no kind begins no token
pub begins_none : (b : ℕ) → begins_word b ≡ false → is_ascii_digit b ≡ false → b ≢ quote → ((s : Sign) (more : List ℕ) → sign_bytes s ≡ b ∷ more → ⊥) → (t : Token) (more : List ℕ) → Spells (b ∷ more) t → ⊥
begins_none b word digit quoted sign (Keyword k) more h = absurd cc
begins_none b word digit quoted sign (Name name) more h = absurd cc
begins_none b word digit quoted sign LongWord more h = absurd cc
begins_none b word digit quoted sign (Integer n) more h = absurd cc
begins_none b word digit quoted sign BigInteger more h = absurd cc
begins_none b word digit quoted sign (Text text) more h = quoted cc
begins_none b word digit quoted sign (LongText text) more h = quoted cc
begins_none b word digit quoted sign (SignToken s) more h = sign s more (sym h)

-- a first byte that begins nothing
pub bad_first : (bytes : List ℕ) → 0 < length bytes → is_blank (get_or bytes 0 0) ≡ false → begins_word (get_or bytes 0 0) ≡ false → is_ascii_digit (get_or bytes 0 0) ≡ false → get_or bytes 0 0 ≢ quote
    → ((s : Sign) (more : List ℕ) → sign_bytes s ≡ get_or bytes 0 0 ∷ more → ⊥) → IsBadAt 0 bytes
bad_first [] some no_blank word digit quoted sign = absurd (omega arith)
bad_first (b ∷ bs) some no_blank word digit quoted sign = outside no_blank (begins_none b word digit quoted sign)
