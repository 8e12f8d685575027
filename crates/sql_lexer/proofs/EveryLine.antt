-- Every line lexes.
use Rattle.std.proofs.Common.{◌≡◌, ◌∙◌, ◌≢◌, ◌==◌, ◌+◌, ◌≤◌, ◌^◌, ◌⊎◌, inl, inr, ℕ, zero, suc, Bool, true, false, List, [], ◌∷◌, ◌++◌, length, take, drop, pos, refl, sym, ap, subst, arith, take-append-drop, length-append}
use Rattle.std.specs.Char.{is_ascii_digit}
use Rattle.std.specs.List.{AllByRecursion, prefix_len}
use Rattle.std.specs.Str.{str_to_ascii_uppercase}
use Rattle.std.specs.Str.Parse.{digits_value}
use Rattle.std.proofs.lemmas.Bool.{cases_lt}
use Rattle.std.proofs.lemmas.List.{append-nil}
use Rattle.std.proofs.lemmas.Bool.Decides.{nat_tests}
use Rattle.values.specs.Name.{begins_word, continues_word, IsName}
use Rattle.values.specs.Text.{IsPrintable}
use Rattle.sql_lexer.specs.declared.token.Sign.{Sign}
use Rattle.sql_lexer.specs.declared.token.Sign.TheVariants as sign
use Rattle.sql_lexer.specs.declared.token.Token.{Token}
use Rattle.sql_lexer.specs.declared.token.Token.TheVariants.{Keyword, Name, LongWord, Integer, BigInteger, Text, LongText, Sign as SignToken}
use Rattle.sql_lexer.specs.declared.token.Placed.{Placed}
use Rattle.sql_lexer.specs.declared.token.Ending.{Ending}
use Rattle.sql_lexer.specs.declared.token.Ending.TheVariants.{Whole, BadByte, Unclosed}
use Rattle.sql_lexer.specs.Lexes.{Lexes, whole, blank, token, bad_byte, unclosed, is_blank, EndsBefore, IsBadAt, outside, inside, IsUnclosed}
use Rattle.sql_lexer.specs.Token.{IsWord, IsNumber, Spells, goes_on, quote, doubled, quoted, sign_bytes}
use Rattle.sql_lexer.proofs.FirstTokens.{quoted-append, not_empty}
use Rattle.sql_lexer.proofs.Keywords.{keyword_or_not}
use Rattle.sql_lexer.proofs.OneReading.{First}
use Rattle.sql_lexer.proofs.OpenTexts.{Stops, ends, bad, closes, Byte, a_quote, another, byte}
use Rattle.sql_lexer.proofs.Runs.{run_ends, word_run, number_run}
use Rattle.sql_lexer.proofs.Steps.{begins_none}

-- what stands at the front of the bytes
data Next (bytes : List ℕ) : Type 0 where
  skips : (b : ℕ) (rest : List ℕ) → bytes ≡ b ∷ rest → is_blank b ≡ true → Next bytes
  takes : (t : Token) (spelt rest : List ℕ) → First bytes t spelt rest → Next bytes
  is_bad : (offset : ℕ) → IsBadAt offset bytes → Next bytes
  is_unclosed : IsUnclosed bytes → Next bytes

name_of_word : (word : List ℕ) → IsWord word → length word ≤ 32 → IsName word
name_of_word [] is within = absurd is
name_of_word (b ∷ bs) is within = (is.0, is.1, omega arith)

word_token : (word : List ℕ) → IsWord word → (t : Token) × Spells word t × (goes_on t ≡ continues_word)
word_token word is = elim (cases_lt 32 (length word)) [
  | inl long ↦ (LongWord, (is, long), refl)
  | inr within ↦ elim (keyword_or_not (str_to_ascii_uppercase word)) [
    | inl found ↦ (Keyword found.0, (name_of_word word is within, found.1), refl)
    | inr none ↦ (Name word, (name_of_word word is within, none, refl), refl)
  ]
]

number_token : (digits : List ℕ) → IsNumber digits → (t : Token) × Spells digits t × (goes_on t ≡ is_ascii_digit)
number_token digits is = elim (cases_lt (digits_value 10 digits) (2 ^ 63)) [
  | inl small ↦ (Integer (pos (digits_value 10 digits)), (is, small, refl), refl)
  | inr big ↦ (BigInteger, (is, big), refl)
]

-- the run of bytes at the front is a token
run_token : (test : ℕ → Bool) (bytes : List ℕ) (t : Token) → Spells (take (prefix_len test bytes) bytes) t → goes_on t ≡ test → Next bytes
run_token test bytes t h on =
    let count : ℕ = prefix_len test bytes in
    takes t (take count bytes) (drop count bytes) (record {
      is = sym (take-append-drop count bytes);
      spells = h;
      longest = subst (λ p. EndsBefore p (drop count bytes)) (sym on) (run_ends test bytes);
    })

word_next : (b : ℕ) (bs : List ℕ) → begins_word b ≡ true → Next (b ∷ bs)
word_next b bs first =
    let count : ℕ = prefix_len continues_word (b ∷ bs) in
    let t = word_token (take count (b ∷ bs)) (word_run (b ∷ bs) count refl (omega arith) first) in
    run_token continues_word (b ∷ bs) t.0 t.1 t.2

number_next : (b : ℕ) (bs : List ℕ) → is_ascii_digit b ≡ true → Next (b ∷ bs)
number_next b bs first =
    let count : ℕ = prefix_len is_ascii_digit (b ∷ bs) in
    let t = number_token (take count (b ∷ bs)) (number_run (b ∷ bs) count refl (omega arith) first) in
    run_token is_ascii_digit (b ∷ bs) t.0 t.1 t.2

-- the bytes as a text, up to what stops it
record Reading (bytes : List ℕ) : Type 0 where
  text : List ℕ
  rest : List ℕ
  printable : AllByRecursion IsPrintable text
  stops : Stops rest
  is : bytes ≡ doubled text ++ rest

nothing_left : Reading []
nothing_left = record { text = []; rest = []; printable = tt; stops = ends; is = refl }

lone_quote : (b : ℕ) (bs : List ℕ) → b ≡ quote → EndsBefore (λ c. c == quote) bs → Reading (b ∷ bs)
lone_quote b bs same e = record { text = []; rest = b ∷ bs; printable = tt; stops = subst (λ c. Stops (c ∷ bs)) (sym same) (closes e); is = refl }

two_quotes : (b c : ℕ) (bs : List ℕ) → b ≡ quote → c ≡ quote → Reading bs → Reading (b ∷ c ∷ bs)
two_quotes b c bs b_is c_is r = record {
  text = quote ∷ r.text;
  rest = r.rest;
  printable = ((omega arith, omega arith), r.printable);
  stops = r.stops;
  is = let e = r.is in cc;
}

printable_or_not : (b : ℕ) → IsPrintable b ⊎ (IsPrintable b → ⊥)
printable_or_not b = elim (cases_lt b 32) [
  | inl low ↦ inr (λ p. omega arith)
  | inr above ↦ elim (cases_lt 126 b) [ inl high ↦ inr (λ p. omega arith) | inr below ↦ inl (above, below) ]
]

-- one byte before a text, given how it is read where the byte is a quote
read_byte : (b : ℕ) (bs : List ℕ) → Reading bs → (b ≡ quote → Reading (b ∷ bs)) → Reading (b ∷ bs)
read_byte b bs r at_quote = go (byte b) (printable_or_not b)
  where
    go : Byte b → IsPrintable b ⊎ (IsPrintable b → ⊥) → Reading (b ∷ bs)
    go (a_quote same) p = at_quote same
    go (another other differs is) (inl p) = record {
      text = b ∷ r.text;
      rest = r.rest;
      printable = (p, r.printable);
      stops = r.stops;
      is = ap (λ x. b ∷ x) r.is ∙ ap (λ x. x ++ r.rest) (sym (is r.text));
    }
    go (another other differs is) (inr p) = record { text = []; rest = b ∷ bs; printable = tt; stops = bad p; is = refl }

after_quote : (b c : ℕ) (bs : List ℕ) → b ≡ quote → Reading bs → Reading (b ∷ c ∷ bs)
after_quote b c bs same r = go (byte c)
  where
    go : Byte c → Reading (b ∷ c ∷ bs)
    go (a_quote c_is) = two_quotes b c bs same c_is r
    go (another other differs is) = lone_quote b (c ∷ bs) same differs

-- the bytes, and the bytes after any byte
read_both : (bytes : List ℕ) → Reading bytes × ((b : ℕ) → Reading (b ∷ bytes))
read_both [] = (nothing_left, λ b. read_byte b [] nothing_left (λ same. lone_quote b [] same tt))
read_both (c ∷ cs) =
    let r = read_both cs in
    (r.1 c, λ b. read_byte b (c ∷ cs) (r.1 c) (λ same. after_quote b c cs same r.0))

text_token : (text : List ℕ) → AllByRecursion IsPrintable text → (t : Token) × Spells (quoted text) t × (goes_on t ≡ (λ b. b == quote))
text_token text printable = elim (cases_lt 200 (length text)) [
  | inl long ↦ (LongText text, (refl, printable, long), refl)
  | inr within ↦ (Text text, (refl, (within, printable)), refl)
]

text_next : (b : ℕ) (bs : List ℕ) → b ≡ quote → Next (b ∷ bs)
text_next b bs same = go r.stops r.is
  where
    r : Reading bs
    r = (read_both bs).0

    opened : (rest : List ℕ) → bs ≡ doubled r.text ++ rest → b ∷ bs ≡ quote ∷ (doubled r.text ++ rest)
    opened rest e = cc

    go : {rest : List ℕ} → Stops rest → bs ≡ doubled r.text ++ rest → Next (b ∷ bs)
    go ends e = is_unclosed (r.text, r.printable, opened [] e ∙ ap (λ x. quote ∷ x) (append-nil (doubled r.text)))
    go (bad {b = c} {bs = cs} p) e = is_bad (1 + length (doubled r.text)) (inside r.text c cs r.printable p (opened (c ∷ cs) e))
    go (closes {bs = cs} ends_before) e =
        let t = text_token r.text r.printable in
        takes t.0 (quoted r.text) cs (record {
          is = opened (quote ∷ cs) e ∙ sym (quoted-append r.text cs);
          spells = t.1;
          longest = subst (λ test. EndsBefore test cs) (sym t.2) ends_before;
        })

choose : {R : Type 0} (b k : ℕ) → (b ≡ k → R) → (b ≢ k → R) → R
choose {R} b k same other = go (b == k) refl
  where
    go : (v : Bool) → (b == k) ≡ v → R
    go true e = same (grind (arith, nat_tests))
    go false e = other (λ is. grind (arith, nat_tests))

one_byte : (s : Sign) (k b : ℕ) (bs : List ℕ) → sign_bytes s ≡ k ∷ [] → EndsBefore (goes_on (SignToken s)) bs → b ≡ k → Next (b ∷ bs)
one_byte s k b bs spelt longest same = takes (SignToken s) (b ∷ []) bs (record { is = refl; spells = ap (λ x. x ∷ []) same ∙ sym spelt; longest = longest })

two_bytes : (s : Sign) (k l b c : ℕ) (bs : List ℕ) → sign_bytes s ≡ k ∷ l ∷ [] → EndsBefore (goes_on (SignToken s)) bs → b ≡ k → c ≡ l → Next (b ∷ c ∷ bs)
two_bytes s k l b c bs spelt longest b_is c_is = takes (SignToken s) (b ∷ c ∷ []) bs (record { is = refl; spells = (let e : b ∷ c ∷ [] ≡ k ∷ l ∷ [] = cc in e ∙ sym spelt); longest = longest })

-- no byte goes on with it
never : (bs : List ℕ) → EndsBefore (λ b. false) bs
never [] = tt
never (b ∷ bs) = refl

less_next : (b : ℕ) (bs : List ℕ) → b ≡ 60 → Next (b ∷ bs)
less_next b [] same = one_byte sign.Less 60 b [] refl tt same
less_next b (c ∷ cs) same =
    choose c 62 (two_bytes sign.NotEqual 60 62 b c cs refl (never cs) same) (λ no_62.
    choose c 61 (two_bytes sign.AtMost 60 61 b c cs refl (never cs) same) (λ no_61.
    one_byte sign.Less 60 b (c ∷ cs) refl (grind (arith, nat_tests)) same))

greater_next : (b : ℕ) (bs : List ℕ) → b ≡ 62 → Next (b ∷ bs)
greater_next b [] same = one_byte sign.Greater 62 b [] refl tt same
greater_next b (c ∷ cs) same =
    choose c 61 (two_bytes sign.AtLeast 62 61 b c cs refl (never cs) same) (λ no_61.
    one_byte sign.Greater 62 b (c ∷ cs) refl (grind (arith, nat_tests)) same)

no_sign : (b : ℕ) → b ≢ 40 → b ≢ 41 → b ≢ 44 → b ≢ 46 → b ≢ 42 → b ≢ 43 → b ≢ 45 → b ≢ 61 → b ≢ 60 → b ≢ 62 → (s : Sign) (more : List ℕ) → sign_bytes s ≡ b ∷ more → ⊥
no_sign b n40 n41 n44 n46 n42 n43 n45 n61 n60 n62 sign.Open more e = n40 cc
no_sign b n40 n41 n44 n46 n42 n43 n45 n61 n60 n62 sign.Close more e = n41 cc
no_sign b n40 n41 n44 n46 n42 n43 n45 n61 n60 n62 sign.Comma more e = n44 cc
no_sign b n40 n41 n44 n46 n42 n43 n45 n61 n60 n62 sign.Dot more e = n46 cc
no_sign b n40 n41 n44 n46 n42 n43 n45 n61 n60 n62 sign.Star more e = n42 cc
no_sign b n40 n41 n44 n46 n42 n43 n45 n61 n60 n62 sign.Plus more e = n43 cc
no_sign b n40 n41 n44 n46 n42 n43 n45 n61 n60 n62 sign.Minus more e = n45 cc
no_sign b n40 n41 n44 n46 n42 n43 n45 n61 n60 n62 sign.Equal more e = n61 cc
no_sign b n40 n41 n44 n46 n42 n43 n45 n61 n60 n62 sign.NotEqual more e = n60 cc
no_sign b n40 n41 n44 n46 n42 n43 n45 n61 n60 n62 sign.Less more e = n60 cc
no_sign b n40 n41 n44 n46 n42 n43 n45 n61 n60 n62 sign.AtMost more e = n60 cc
no_sign b n40 n41 n44 n46 n42 n43 n45 n61 n60 n62 sign.Greater more e = n62 cc
no_sign b n40 n41 n44 n46 n42 n43 n45 n61 n60 n62 sign.AtLeast more e = n62 cc

sign_next : (b : ℕ) (bs : List ℕ) → is_blank b ≡ false → begins_word b ≡ false → is_ascii_digit b ≡ false → b ≢ quote → Next (b ∷ bs)
sign_next b bs no_blank no_word no_digit no_quote =
    choose b 40 (one_byte sign.Open 40 b bs refl (never bs)) (λ n40. choose b 41 (one_byte sign.Close 41 b bs refl (never bs)) (λ n41.
    choose b 44 (one_byte sign.Comma 44 b bs refl (never bs)) (λ n44. choose b 46 (one_byte sign.Dot 46 b bs refl (never bs)) (λ n46.
    choose b 42 (one_byte sign.Star 42 b bs refl (never bs)) (λ n42. choose b 43 (one_byte sign.Plus 43 b bs refl (never bs)) (λ n43.
    choose b 45 (one_byte sign.Minus 45 b bs refl (never bs)) (λ n45. choose b 61 (one_byte sign.Equal 61 b bs refl (never bs)) (λ n61.
    choose b 60 (less_next b bs) (λ n60. choose b 62 (greater_next b bs) (λ n62.
    is_bad 0 (outside no_blank (begins_none b no_word no_digit no_quote (no_sign b n40 n41 n44 n46 n42 n43 n45 n61 n60 n62)))))))))))))

next : (b : ℕ) (bs : List ℕ) → Next (b ∷ bs)
next b bs = go (is_blank b) refl (begins_word b) refl (is_ascii_digit b) refl
  where
    go : (v : Bool) → is_blank b ≡ v → (w : Bool) → begins_word b ≡ w → (x : Bool) → is_ascii_digit b ≡ x → Next (b ∷ bs)
    go true e w f x g = skips b bs refl e
    go false e true f x g = word_next b bs f
    go false e false f true g = number_next b bs g
    go false e false f false g = choose b quote (text_next b bs) (sign_next b bs e f g)

HasReading : ℕ → List ℕ → Type 0
HasReading place bytes = (tokens : List Placed) × (ending : Ending) × Lexes place bytes tokens ending

step : (fuel place : ℕ) (bytes : List ℕ) → length bytes ≤ suc fuel → Next bytes → ((at : ℕ) (rest : List ℕ) → length rest ≤ fuel → HasReading at rest) → HasReading place bytes
unfolding HasReading
step fuel place bytes le (skips b rest is blank_first) more =
    let r = more (place + 1) rest (omega (arith, ap length is)) in
    (r.0, r.1, subst (λ x. Lexes place x r.0 r.1) (sym is) (blank blank_first r.2))
step fuel place bytes le (takes t [] rest first) more = absurd (not_empty t first.spells)
step fuel place bytes le (takes t (b ∷ bs) rest first) more =
    let r = more (place + length (b ∷ bs)) rest (omega (arith, ap length first.is, length-append (b ∷ bs) rest)) in
    (record { token = t; place = place } ∷ r.0, r.1, token t (b ∷ bs) rest first.is first.spells first.longest r.2)
step fuel place bytes le (is_bad offset h) more = ([], BadByte (place + offset), bad_byte h)
step fuel place bytes le (is_unclosed h) more = ([], Unclosed, unclosed h)

reading : (fuel place : ℕ) (bytes : List ℕ) → length bytes ≤ fuel → HasReading place bytes
unfolding HasReading
reading fuel place [] le = ([], Whole, whole)
reading zero place (b ∷ bs) le = absurd (omega arith)
reading (suc n) place (b ∷ bs) le = step n place (b ∷ bs) le (next b bs) (λ at rest within. reading n at rest within)

pub every_line : (line : List ℕ) → (tokens : List Placed) × (ending : Ending) × Lexes 0 line tokens ending
unfolding HasReading
every_line line = reading (length line) 0 line (omega arith)
