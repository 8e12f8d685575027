-- The bytes at the front of a line are one token at most.
use Rattle.std.proofs.Common.{◌≡◌, ◌∙◌, ◌==◌, ◌||◌, ◌≤◌, ℕ, Bool, true, false, cond, Option, Some, None, List, [], ◌∷◌, ◌++◌, length, get_or, refl, sym, ap, subst, arith}
use Rattle.std.specs.Char.{is_ascii_digit}
use Rattle.std.specs.List.{AllByRecursion, list_all}
use Rattle.std.proofs.lemmas.Bool.{false≢true, and_parts, and_from}
use Rattle.std.proofs.lemmas.Bool.Decides.{nat_tests}
use Rattle.std.proofs.lemmas.List.{append_cancel_left, append_assoc}
use Rattle.values.specs.Name.{begins_word, continues_word, IsName}
use Rattle.values.specs.Text.{IsPrintable}
use Rattle.sql_lexer.specs.declared.token.Sign.{Sign}
use Rattle.sql_lexer.specs.declared.token.Sign.TheVariants as sign
use Rattle.sql_lexer.specs.declared.token.Token.{Token}
use Rattle.sql_lexer.specs.declared.token.Token.TheVariants.{Keyword, Name, LongWord, Integer, BigInteger, Text, LongText, Sign as SignToken}
use Rattle.sql_lexer.specs.Lexes.{EndsBefore, is_blank}
use Rattle.sql_lexer.specs.Token.{IsWord, IsNumber, Spells, goes_on, quote, doubled, quoted, sign_bytes}
use Rattle.sql_lexer.proofs.Keywords.{same_from_spelling}
use Rattle.sql_lexer.proofs.OpenTexts.{closes, same_text}
use Rattle.sql_lexer.proofs.Runs.{continues_from_begins}

-- what the first byte begins
pub data Kind : Type 0 where
  Nothing : Kind
  Blank : Kind
  Word : Kind
  Number : Kind
  Quoted : Kind
  Other : Kind

abbrev pub kind_at : ℕ → Kind
kind_at b = cond (is_blank b) Blank (cond (begins_word b) Word (cond (is_ascii_digit b) Number (cond (b == quote) Quoted Other)))

abbrev pub kind_of_bytes : List ℕ → Kind
kind_of_bytes [] = Nothing
kind_of_bytes (b ∷ bs) = kind_at b

abbrev pub kind_of : Token → Kind
kind_of (Keyword k) = Word
kind_of (Name name) = Word
kind_of LongWord = Word
kind_of (Integer n) = Number
kind_of BigInteger = Number
kind_of (Text text) = Quoted
kind_of (LongText text) = Quoted
kind_of (SignToken s) = Other

pub blank_kind : (b : ℕ) → is_blank b ≡ true → kind_at b ≡ Blank
blank_kind b is = ap (λ v. cond v Blank (cond (begins_word b) Word (cond (is_ascii_digit b) Number (cond (b == quote) Quoted Other)))) is

word_kind : (b : ℕ) → begins_word b ≡ true → kind_at b ≡ Word
word_kind b word =
    let no_blank : is_blank b ≡ false = grind (arith, nat_tests) in
    ap (λ v. cond v Blank (cond (begins_word b) Word (cond (is_ascii_digit b) Number (cond (b == quote) Quoted Other)))) no_blank
    ∙ ap (λ v. cond v Word (cond (is_ascii_digit b) Number (cond (b == quote) Quoted Other))) word

number_kind : (b : ℕ) → is_ascii_digit b ≡ true → kind_at b ≡ Number
number_kind b digit =
    let no_blank : is_blank b ≡ false = grind (arith, nat_tests) in
    let no_word : begins_word b ≡ false = grind (arith, nat_tests) in
    ap (λ v. cond v Blank (cond (begins_word b) Word (cond (is_ascii_digit b) Number (cond (b == quote) Quoted Other)))) no_blank
    ∙ ap (λ v. cond v Word (cond (is_ascii_digit b) Number (cond (b == quote) Quoted Other))) no_word
    ∙ ap (λ v. cond v Number (cond (b == quote) Quoted Other)) digit

sign_kind : (s : Sign) → kind_of_bytes (sign_bytes s) ≡ Other
sign_kind sign.Open = refl
sign_kind _ = refl

name_kind : (bytes : List ℕ) → IsName bytes → kind_of_bytes bytes ≡ Word
name_kind [] name = absurd name
name_kind (b ∷ bs) name = word_kind b name.0

number_bytes_kind : (bytes : List ℕ) → IsNumber bytes → kind_of_bytes bytes ≡ Number
number_bytes_kind [] number = absurd number
number_bytes_kind (b ∷ bs) number = number_kind b (and_parts (is_ascii_digit b) (list_all is_ascii_digit bs) number).0

-- the first byte of a token shows its kind
pub first_kind : (t : Token) (bytes : List ℕ) → Spells bytes t → kind_of_bytes bytes ≡ kind_of t
first_kind (Keyword k) bytes h = name_kind bytes h.0
first_kind (Name name) bytes h = name_kind bytes h.0
first_kind LongWord [] h = absurd h.0
first_kind LongWord (b ∷ bs) h = word_kind b h.0.0
first_kind (Integer n) bytes h = number_bytes_kind bytes h.0
first_kind BigInteger bytes h = number_bytes_kind bytes h.0
first_kind (Text text) bytes h = ap kind_of_bytes h.0
first_kind (LongText text) bytes h = ap kind_of_bytes h.0
first_kind (SignToken s) bytes h = ap kind_of_bytes h ∙ sign_kind s

-- where a token of a kind ends
abbrev pub Cut : Kind → List ℕ → List ℕ → Type 0
Cut Nothing spelt rest = ⊥
Cut Blank spelt rest = ⊥
Cut Word spelt rest = (list_all continues_word spelt ≡ true) × EndsBefore continues_word rest
Cut Number spelt rest = (list_all is_ascii_digit spelt ≡ true) × EndsBefore is_ascii_digit rest
Cut Quoted spelt rest = (text : List ℕ) × AllByRecursion IsPrintable text × (spelt ≡ quoted text) × EndsBefore (λ b. b == quote) rest
Cut Other spelt rest = (s : Sign) × (spelt ≡ sign_bytes s) × EndsBefore (goes_on (SignToken s)) rest

all_of_name : (bytes : List ℕ) → IsName bytes → list_all continues_word bytes ≡ true
all_of_name [] name = refl
all_of_name (b ∷ bs) name = and_from (continues_word b) (list_all continues_word bs) (continues_from_begins b name.0) name.1

all_of_word : (bytes : List ℕ) → IsWord bytes → list_all continues_word bytes ≡ true
all_of_word [] word = refl
all_of_word (b ∷ bs) word = and_from (continues_word b) (list_all continues_word bs) (continues_from_begins b word.0) word.1

all_of_number : (bytes : List ℕ) → IsNumber bytes → list_all is_ascii_digit bytes ≡ true
all_of_number [] number = refl
all_of_number (b ∷ bs) number = number

pub cut : (t : Token) (spelt rest : List ℕ) → Spells spelt t → EndsBefore (goes_on t) rest → Cut (kind_of t) spelt rest
cut (Keyword k) spelt rest h e = (all_of_name spelt h.0, e)
cut (Name name) spelt rest h e = (all_of_name spelt h.0, e)
cut LongWord spelt rest h e = (all_of_word spelt h.0, e)
cut (Integer n) spelt rest h e = (all_of_number spelt h.0, e)
cut BigInteger spelt rest h e = (all_of_number spelt h.0, e)
cut (Text text) spelt rest h e = (text, h.1.1, h.0, e)
cut (LongText text) spelt rest h e = (text, h.1, h.0, e)
cut (SignToken s) spelt rest h e = (s, h, e)

same_run : (test : ℕ → Bool) (w v r s : List ℕ) → list_all test w ≡ true → list_all test v ≡ true → EndsBefore test r → EndsBefore test s → w ++ r ≡ v ++ s → (w ≡ v) × (r ≡ s)
same_run test [] [] r s p q h k e = (refl, e)
same_run test [] (y ∷ ys) r s p q h k e = absurd (false≢true (sym (subst (EndsBefore test) e h) ∙ (and_parts (test y) (list_all test ys) q).0))
same_run test (x ∷ xs) [] r s p q h k e = absurd (false≢true (sym (subst (EndsBefore test) (sym e) k) ∙ (and_parts (test x) (list_all test xs) p).0))
same_run test (x ∷ xs) (y ∷ ys) r s p q h k e =
    let rest = same_run test xs ys r s (and_parts (test x) (list_all test xs) p).1 (and_parts (test y) (list_all test ys) q).1 h k cc in
    (cc, rest.1)

-- the sign that stands first
sign_at : ℕ → ℕ → Option Sign
sign_at b next =
    cond (b == 40) (Some sign.Open) (cond (b == 41) (Some sign.Close) (cond (b == 44) (Some sign.Comma) (cond (b == 46) (Some sign.Dot)
    (cond (b == 42) (Some sign.Star) (cond (b == 43) (Some sign.Plus) (cond (b == 45) (Some sign.Minus) (cond (b == 61) (Some sign.Equal)
    (cond (b == 60) (cond (next == 62) (Some sign.NotEqual) (cond (next == 61) (Some sign.AtMost) (Some sign.Less)))
    (cond (next == 61) (Some sign.AtLeast) (Some sign.Greater))))))))))

first_sign : List ℕ → Option Sign
first_sign [] = None
first_sign (b ∷ bs) = sign_at b (get_or bs 0 0)

sign_found : (s : Sign) (rest : List ℕ) → EndsBefore (goes_on (SignToken s)) rest → first_sign (sign_bytes s ++ rest) ≡ Some s
unfolding first_sign sign_at
sign_found sign.Less [] e = refl
sign_found sign.Less (b ∷ bs) e = less (b == 61) (b == 62) e
  where
    less : (v w : Bool) → (v || w) ≡ false → cond w (Some sign.NotEqual) (cond v (Some sign.AtMost) (Some sign.Less)) ≡ Some sign.Less
    less true w h = absurd cc
    less false true h = absurd cc
    less false false h = refl
sign_found sign.Greater [] e = refl
sign_found sign.Greater (b ∷ bs) e = ap (λ v. cond v (Some sign.AtLeast) (Some sign.Greater)) e
sign_found s rest e = refl

same_sign : (s z : Sign) (r q : List ℕ) → EndsBefore (goes_on (SignToken s)) r → EndsBefore (goes_on (SignToken z)) q → sign_bytes s ++ r ≡ sign_bytes z ++ q → s ≡ z
same_sign s z r q h k e = let f : Some s ≡ Some z = sym (sign_found s r h) ∙ ap first_sign e ∙ sign_found z q k in cc

-- a text in quotes, and what comes next
pub quoted-append : (text rest : List ℕ) → quoted text ++ rest ≡ quote ∷ (doubled text ++ (quote ∷ rest))
quoted-append text rest = ap (λ x. quote ∷ x) (append_assoc (doubled text) (quote ∷ []) rest)

pub same_cut : (k : Kind) (w v r s : List ℕ) → Cut k w r → Cut k v s → w ++ r ≡ v ++ s → (w ≡ v) × (r ≡ s)
same_cut Nothing w v r s c d e = absurd c
same_cut Blank w v r s c d e = absurd c
same_cut Word w v r s c d e = same_run continues_word w v r s c.0 d.0 c.1 d.1 e
same_cut Number w v r s c d e = same_run is_ascii_digit w v r s c.0 d.0 c.1 d.1 e
same_cut Quoted w v r s c d e =
    let whole : quote ∷ (doubled c.0 ++ (quote ∷ r)) ≡ quote ∷ (doubled d.0 ++ (quote ∷ s)) =
    sym (quoted-append c.0 r) ∙ ap (λ x. x ++ r) (sym c.2) ∙ e ∙ ap (λ x. x ++ s) d.2 ∙ quoted-append d.0 s in
    let f : doubled c.0 ++ (quote ∷ r) ≡ doubled d.0 ++ (quote ∷ s) = cc in
    let same = same_text c.0 d.0 (quote ∷ r) (quote ∷ s) c.1 d.1 (closes c.3) (closes d.3) f in
    (c.2 ∙ ap quoted same.0 ∙ sym d.2, cc)
same_cut Other w v r s c d e =
    let f : sign_bytes c.0 ++ r ≡ sign_bytes d.0 ++ s = ap (λ x. x ++ r) (sym c.1) ∙ e ∙ ap (λ x. x ++ s) d.1 in
    let same : c.0 ≡ d.0 = same_sign c.0 d.0 r s c.2 d.2 f in
    let w_is : w ≡ v = c.1 ∙ ap sign_bytes same ∙ sym d.1 in
    (w_is, append_cancel_left v r s (ap (λ x. x ++ r) (sym w_is) ∙ e))

name_within : (bytes : List ℕ) → IsName bytes → length bytes ≤ 32
name_within [] name = absurd name
name_within (b ∷ bs) name = omega (arith, name.2)

quoted_same : (t u : List ℕ) → AllByRecursion IsPrintable t → AllByRecursion IsPrintable u → quoted t ≡ quoted u → t ≡ u
quoted_same t u p q e = (same_text t u (quote ∷ []) (quote ∷ []) p q (closes tt) (closes tt) cc).0

-- bytes spell one token
pub same_token : (t u : Token) (w : List ℕ) → Spells w t → Spells w u → t ≡ u
same_token (Keyword k) (Keyword l) w p q = ap Keyword (same_from_spelling k l (sym p.1 ∙ q.1))
same_token (Keyword k) (Name name) w p q = absurd (q.1 k p.1)
same_token (Keyword k) LongWord w p q = absurd (omega (arith, name_within w p.0))
same_token (Name name) (Keyword k) w p q = absurd (p.1 k q.1)
same_token (Name m) (Name n) w p q = ap Name (p.2 ∙ sym q.2)
same_token (Name name) LongWord w p q = absurd (omega (arith, name_within w p.0))
same_token LongWord (Keyword k) w p q = absurd (omega (arith, name_within w q.0))
same_token LongWord (Name name) w p q = absurd (omega (arith, name_within w q.0))
same_token LongWord LongWord w p q = refl
same_token (Integer m) (Integer n) w p q = ap Integer (p.2 ∙ sym q.2)
same_token (Integer m) BigInteger w p q = absurd (omega arith)
same_token BigInteger (Integer n) w p q = absurd (omega arith)
same_token BigInteger BigInteger w p q = refl
same_token (Text t) (Text u) w p q = ap Text (quoted_same t u p.1.1 q.1.1 (sym p.0 ∙ q.0))
same_token (Text t) (LongText u) w p q = absurd (omega (arith, ap length (quoted_same t u p.1.1 q.1 (sym p.0 ∙ q.0))))
same_token (LongText t) (Text u) w p q = absurd (omega (arith, ap length (quoted_same t u p.1 q.1.1 (sym p.0 ∙ q.0))))
same_token (LongText t) (LongText u) w p q = ap LongText (quoted_same t u p.1 q.1 (sym p.0 ∙ q.0))
same_token (SignToken s) (SignToken z) w p q = ap SignToken (same_sign s z [] [] tt tt (ap (λ x. x ++ []) (sym p ∙ q)))
same_token t u w p q = let e : kind_of t ≡ kind_of u = sym (first_kind t w p) ∙ first_kind u w q in absurd cc

some_kind : (t : Token) → kind_of t ≡ Nothing → ⊥
some_kind (Keyword k) e = cc
some_kind _ e = cc

pub not_blank : (t : Token) → kind_of t ≡ Blank → ⊥
not_blank (Keyword k) e = cc
not_blank _ e = cc

pub not_empty : (t : Token) → Spells [] t → ⊥
not_empty t h = some_kind t (sym (first_kind t [] h))

-- the first byte of a line shows the kind of the token there
pub front_kind : (t : Token) (w r : List ℕ) → Spells w t → kind_of_bytes (w ++ r) ≡ kind_of t
front_kind t [] r h = absurd (not_empty t h)
front_kind t (b ∷ bs) r h = first_kind t (b ∷ bs) h

-- a line begins with one token at most
pub same_first : (t u : Token) (w v r s : List ℕ) → Spells w t → Spells v u → EndsBefore (goes_on t) r → EndsBefore (goes_on u) s → w ++ r ≡ v ++ s → (t ≡ u) × (w ≡ v) × (r ≡ s)
same_first t u w v r s p q h k e =
    let kind : kind_of t ≡ kind_of u = sym (front_kind t w r p) ∙ ap kind_of_bytes e ∙ front_kind u v s q in
    let same = same_cut (kind_of u) w v r s (subst (λ x. Cut x w r) kind (cut t w r p h)) (cut u v s q k) e in
    (same_token t u v (subst (λ x. Spells x t) same.0 p) q, same.0, same.1)
