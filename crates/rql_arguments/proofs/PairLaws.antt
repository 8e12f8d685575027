-- The pairs that tokens are, by their tokens.
use Rattle.std.proofs.Common.{◌≡◌, ◌∙◌, ◌++◌, ◌&&◌, ◌≤◌, ◌<◌, ◌-◌, ℕ, Bool, true, false, Option, Some, None, List, [], ◌∷◌, length, take, drop, slice_index_or, refl, sym, ap, subst, append_assoc, if◌then◌else◌, arith}
use Rattle.std.proofs.lemmas.List.{take_all}
use Rattle.rql.specs.declared.function.Function.{Function}
use Rattle.rql.specs.declared.function.Function.TheVariants as function
use Rattle.rql.specs.declared.pair.Pair.{Pair}
use Rattle.sql_lexer.specs.Lexes.{HasOneReading, Lexes}
use Rattle.sql_lexer.specs.declared.token.Ending.{Ending}
use Rattle.sql_lexer.specs.declared.token.Ending.TheVariants as ending
use Rattle.sql_lexer.specs.declared.token.Keyword.TheVariants as keyword
use Rattle.sql_lexer.specs.declared.token.Placed.{Placed}
use Rattle.sql_lexer.specs.declared.token.Sign.TheVariants as sign
use Rattle.sql_lexer.specs.declared.token.Token.{Token}
use Rattle.sql_lexer.specs.declared.token.Token.TheVariants as token
use Rattle.sql_text.specs.Places.{tokens_of}
use Rattle.rql_arguments.specs.Forms.{ArePairs, function_keyword, pair_tokens, pairs_tokens}
use Rattle.rql_arguments.specs.Reading.{Finds, SaysNone, behind, function_of, is_close, is_comma, is_open, is_whole, joined, one_pair, pair_of, paired, pairs_of}

open_is : (t : Token) → is_open t ≡ true → t ≡ token.Sign sign.Open
open_is (token.Sign sign.Open) e = refl
open_is t e = cc

comma_is : (t : Token) → is_comma t ≡ true → t ≡ token.Sign sign.Comma
comma_is (token.Sign sign.Comma) e = refl
comma_is t e = cc

close_is : (t : Token) → is_close t ≡ true → t ≡ token.Sign sign.Close
close_is (token.Sign sign.Close) e = refl
close_is t e = cc

function_is : (t : Token) (f : Function) → function_of t ≡ Some f → t ≡ token.Keyword (function_keyword f)
function_is (token.Keyword keyword.Min) f e = let same : function.Min ≡ f = cc in ap (λ g. token.Keyword (function_keyword g)) same
function_is (token.Keyword keyword.Max) f e = let same : function.Max ≡ f = cc in ap (λ g. token.Keyword (function_keyword g)) same
function_is (token.Keyword keyword.Sum) f e = let same : function.Sum ≡ f = cc in ap (λ g. token.Keyword (function_keyword g)) same
function_is (token.Keyword keyword.Count) f e = let same : function.Count ≡ f = cc in ap (λ g. token.Keyword (function_keyword g)) same
function_is t f e = cc

function_back : (f : Function) → function_of (token.Keyword (function_keyword f)) ≡ Some f
function_back function.Min = refl
function_back function.Max = refl
function_back function.Sum = refl
function_back function.Count = refl

paired_is : (t : Token) (o : Option Function) (p : Pair) → paired t o ≡ Some p → (t ≡ token.Name p.column) × (o ≡ Some p.function)
paired_is (token.Name column) (Some f) p e =
    let new : Pair = record { column = column; function = f } in
    let same : new ≡ p = cc in
    (ap (λ q. token.Name q.column) same, ap (λ q. Some q.function) same)
paired_is (token.Name column) None p e = cc
paired_is t o p e = cc

five : (a b c d e v w x y z : Token) → a ≡ v → b ≡ w → c ≡ x → d ≡ y → e ≡ z → a ∷ b ∷ c ∷ d ∷ e ∷ [] ≡ v ∷ w ∷ x ∷ y ∷ z ∷ []
five a b c d e v w x y z p q r s t = cc

pair_by : (a b c d e : Token) (p : Pair) (x y z : Bool) → is_open a ≡ x → is_comma c ≡ y → is_close e ≡ z → (if x && y && z then paired b (function_of d) else None) ≡ Some p → a ∷ b ∷ c ∷ d ∷ e ∷ [] ≡ pair_tokens p
pair_by a b c d e p true true true f g h k =
    let both = paired_is b (function_of d) p k in
    five a b c d e _ _ _ _ _ (open_is a f) both.0 (comma_is c g) (function_is d p.function both.1) (close_is e h)
pair_by a b c d e p true true false f g h k = cc
pair_by a b c d e p true false z f g h k = cc
pair_by a b c d e p false y z f g h k = cc

pair_is : (a b c d e : Token) (p : Pair) → pair_of a b c d e ≡ Some p → a ∷ b ∷ c ∷ d ∷ e ∷ [] ≡ pair_tokens p
pair_is a b c d e p k = pair_by a b c d e p (is_open a) (is_comma c) (is_close e) refl refl refl k

one_is : (o : Option Pair) (ps : List Pair) → one_pair o ≡ Some ps → (p : Pair) × (o ≡ Some p) × (ps ≡ p ∷ [])
one_is None ps e = cc
one_is (Some p) ps e = (p, refl, cc)

joined_is : (o : Option Pair) (comma : Bool) (more : Option (List Pair)) (ps : List Pair) → joined o comma more ≡ Some ps
    → (p : Pair) × (qs : List Pair) × (o ≡ Some p) × (comma ≡ true) × (more ≡ Some qs) × (ps ≡ p ∷ qs)
joined_is None comma more ps e = cc
joined_is (Some p) false more ps e = cc
joined_is (Some p) true None ps e = cc
joined_is (Some p) true (Some qs) ps e = (p, qs, refl, refl, refl, cc)

-- tokens that are pairs
abbrev AreTokens : List Token → List Pair → Type 0
AreTokens ts ps = (1 ≤ length ps) × (ts ≡ pairs_tokens ps)

some_tokens : (p : Pair) (qs : List Pair) → 1 ≤ length qs → pairs_tokens (p ∷ qs) ≡ pair_tokens p ++ token.Sign sign.Comma ∷ pairs_tokens qs
some_tokens p [] h = absurd (omega arith)
some_tokens p (q ∷ qs) h = refl

last_tokens : (front : List Token) (o : Option Pair) (ps : List Pair) → ((p : Pair) → o ≡ Some p → front ≡ pair_tokens p) → one_pair o ≡ Some ps → AreTokens front ps
last_tokens front o ps is h =
    let one = one_is o ps h in
    (omega (arith, ap length one.2), is one.0 one.1 ∙ sym (ap pairs_tokens one.2))

more_tokens : (front more : List Token) (t : Token) (o : Option Pair) (ps : List Pair) → ((p : Pair) → o ≡ Some p → front ≡ pair_tokens p) → ((qs : List Pair) → pairs_of more ≡ Some qs → AreTokens more qs)
    → joined o (is_comma t) (pairs_of more) ≡ Some ps → AreTokens (front ++ t ∷ more) ps
more_tokens front more t o ps is rest h =
    let j = joined_is o (is_comma t) (pairs_of more) ps h in
    let behind_is = rest j.1 j.4 in (
      omega (arith, ap length j.5),
      ap (λ xs. xs ++ t ∷ more) (is j.0 j.2) ∙ ap (λ x. pair_tokens j.0 ++ x ∷ more) (comma_is t j.3) ∙ ap (λ xs. pair_tokens j.0 ++ token.Sign sign.Comma ∷ xs) behind_is.1
          ∙ sym (some_tokens j.0 j.1 behind_is.0) ∙ sym (ap pairs_tokens j.5),
    )

sound : (ts : List Token) (ps : List Pair) → pairs_of ts ≡ Some ps → AreTokens ts ps
sound [] ps h = cc
sound (a ∷ []) ps h = cc
sound (a ∷ b ∷ []) ps h = cc
sound (a ∷ b ∷ c ∷ []) ps h = cc
sound (a ∷ b ∷ c ∷ d ∷ []) ps h = cc
sound (a ∷ b ∷ c ∷ d ∷ e ∷ []) ps h = last_tokens (a ∷ b ∷ c ∷ d ∷ e ∷ []) (pair_of a b c d e) ps (pair_is a b c d e) h
sound (a ∷ b ∷ c ∷ d ∷ e ∷ t ∷ more) ps h = more_tokens (a ∷ b ∷ c ∷ d ∷ e ∷ []) more t (pair_of a b c d e) ps (pair_is a b c d e) (sound more) h

complete : (p : Pair) (ps : List Pair) → pairs_of (pairs_tokens (p ∷ ps)) ≡ Some (p ∷ ps)
complete p [] = ap (λ o. one_pair (paired (token.Name p.column) o)) (function_back p.function)
complete p (q ∷ ps) =
    ap (λ o. joined (paired (token.Name p.column) o) true (pairs_of (pairs_tokens (q ∷ ps)))) (function_back p.function) ∙ ap (joined (Some p) true) (complete q ps)

complete_some : (ps : List Pair) → 1 ≤ length ps → pairs_of (pairs_tokens ps) ≡ Some ps
complete_some [] h = absurd (omega arith)
complete_some (p ∷ ps) h = complete p ps

-- the pairs of a text are those of its tokens
text_pairs : HasOneReading → (text : List ℕ) (tokens : List Placed) (end : Ending) → Lexes 0 text tokens end → (ps : List Pair) → ArePairs text ps → (is_whole end ≡ true) × (pairs_of (tokens_of tokens) ≡ Some ps)
text_pairs one text tokens end l ps (some, (ts, l', e)) =
    let same = one text ts tokens ending.Whole end l' l in
    (ap is_whole (sym same.1), ap (λ xs. pairs_of (tokens_of xs)) (sym same.0) ∙ ap pairs_of e ∙ complete_some ps some)

whole_is : (end : Ending) → is_whole end ≡ true → end ≡ ending.Whole
whole_is ending.Whole e = refl
whole_is end e = cc

pub finds_pairs : HasOneReading → (text : List ℕ) (tokens : List Placed) (end : Ending) (found : Option (List Pair)) → Lexes 0 text tokens end → is_whole end ≡ true → found ≡ pairs_of (tokens_of tokens) → Finds (ArePairs text) found
finds_pairs one text tokens end None l w e = λ other h.
    let t : None ≡ Some other = e ∙ (text_pairs one text tokens end l other h).1 in
    cc
finds_pairs one text tokens end (Some ps) l w e = (
  let s = sound (tokens_of tokens) ps (sym e) in (s.0, (tokens, subst (Lexes 0 text tokens) (whole_is end w) l, s.1)),
  λ other h.
      let t : Some ps ≡ Some other = e ∙ (text_pairs one text tokens end l other h).1 in
      cc,
)

pub no_pairs : HasOneReading → (text : List ℕ) (tokens : List Placed) (end : Ending) → Lexes 0 text tokens end → is_whole end ≡ false → SaysNone (ArePairs text)
no_pairs one text tokens end l w other h =
    let t : true ≡ false = sym (text_pairs one text tokens end l other h).0 ∙ w in
    cc

-- the pairs read so far, and those behind them
pub behind_one : (before : List Pair) (p : Pair) (o : Option Pair) (comma : Bool) (more : Option (List Pair)) → o ≡ Some p → comma ≡ true → behind (before ++ p ∷ []) more ≡ behind before (joined o comma more)
behind_one before p None comma more e f = cc
behind_one before p (Some q) false more e f = cc
behind_one before p (Some q) true None e f = refl
behind_one before p (Some q) true (Some ps) e f =
    let same : q ≡ p = cc in
    ap Some (append_assoc before (p ∷ []) ps ∙ sym (ap (λ x. before ++ x ∷ ps) same))

pub behind_nothing : (before : List Pair) (o : Option (List Pair)) → before ≡ [] → behind before o ≡ o
behind_nothing [] None e = refl
behind_nothing [] (Some ps) e = refl
behind_nothing (p ∷ before) o e = cc

pub too_few : (rest : List Placed) → length rest < 5 → pairs_of (tokens_of rest) ≡ None
too_few [] h = refl
too_few (a ∷ []) h = refl
too_few (a ∷ b ∷ []) h = refl
too_few (a ∷ b ∷ c ∷ []) h = refl
too_few (a ∷ b ∷ c ∷ d ∷ []) h = refl
too_few (a ∷ b ∷ c ∷ d ∷ e ∷ rest) h = absurd (omega (arith, h))

-- what stands behind five tokens, as the slice pattern says it
abbrev more_of : List Placed → List Placed
more_of rest = take (length rest - 5) (drop 5 rest)

same_five : (a b c d e v w x y z : Placed) → a ≡ v → b ≡ w → c ≡ x → d ≡ y → e ≡ z → pair_of v.token w.token x.token y.token z.token ≡ pair_of a.token b.token c.token d.token e.token
same_five a b c d e v w x y z f g h i j =
    sym (ap (λ q. pair_of q.token b.token c.token d.token e.token) f ∙ ap (λ q. pair_of v.token q.token c.token d.token e.token) g ∙ ap (λ q. pair_of v.token w.token q.token d.token e.token) h
    ∙ ap (λ q. pair_of v.token w.token x.token q.token e.token) i ∙ ap (λ q. pair_of v.token w.token x.token y.token q.token) j)

read_with : (v w x y z : Placed) (ys more : List Placed) → more ≡ ys → (a b c d e t : Placed) (before after : List Pair) (p : Pair) (all : Option (List Pair)) → 1 ≤ length more → a ≡ v → b ≡ w → c ≡ x → d ≡ y → e ≡ z
    → t ≡ slice_index_or more 0 t → pair_of a.token b.token c.token d.token e.token ≡ Some p → is_comma t.token ≡ true → after ≡ before ++ p ∷ []
    → behind before (pairs_of (tokens_of (v ∷ w ∷ x ∷ y ∷ z ∷ ys))) ≡ all → behind after (pairs_of (tokens_of (take (length more - 1) (drop 1 more)))) ≡ all
read_with v w x y z ys [] m a b c d e t before after p all some f g h i j k pair comma new told = absurd (omega (arith, some))
read_with v w x y z ys (n ∷ ns) m a b c d e t before after p all some f g h i j k pair comma new told =
    ap (λ zs. behind after (pairs_of (tokens_of zs))) (take_all (length (n ∷ ns) - 1) ns (omega arith))
    ∙ ap (λ ps. behind ps (pairs_of (tokens_of ns))) new
    ∙ behind_one before p (pair_of v.token w.token x.token y.token z.token) (is_comma n.token) (pairs_of (tokens_of ns)) (same_five a b c d e v w x y z f g h i j ∙ pair) (ap (λ q. is_comma q.token) (sym k) ∙ comma)
    ∙ ap (λ zs. behind before (pairs_of (tokens_of (v ∷ w ∷ x ∷ y ∷ z ∷ zs)))) m
    ∙ told

pub pair_read : (rest : List Placed) (a b c d e t : Placed) (before after : List Pair) (p : Pair) (all : Option (List Pair)) → 5 ≤ length rest → 1 ≤ length (more_of rest)
    → a ≡ slice_index_or rest 0 a → b ≡ slice_index_or rest 1 b → c ≡ slice_index_or rest 2 c → d ≡ slice_index_or rest 3 d → e ≡ slice_index_or rest 4 e → t ≡ slice_index_or (more_of rest) 0 t
    → pair_of a.token b.token c.token d.token e.token ≡ Some p → is_comma t.token ≡ true → after ≡ before ++ p ∷ []
    → behind before (pairs_of (tokens_of rest)) ≡ all → behind after (pairs_of (tokens_of (take (length (more_of rest) - 1) (drop 1 (more_of rest))))) ≡ all
pair_read [] a b c d e t before after p all five some f g h i j k pair comma new told = absurd (omega (arith, five))
pair_read (v ∷ []) a b c d e t before after p all five some f g h i j k pair comma new told = absurd (omega (arith, five))
pair_read (v ∷ w ∷ []) a b c d e t before after p all five some f g h i j k pair comma new told = absurd (omega (arith, five))
pair_read (v ∷ w ∷ x ∷ []) a b c d e t before after p all five some f g h i j k pair comma new told = absurd (omega (arith, five))
pair_read (v ∷ w ∷ x ∷ y ∷ []) a b c d e t before after p all five some f g h i j k pair comma new told = absurd (omega (arith, five))
pair_read (v ∷ w ∷ x ∷ y ∷ z ∷ ys) a b c d e t before after p all five some f g h i j k pair comma new told =
    read_with v w x y z ys (more_of (v ∷ w ∷ x ∷ y ∷ z ∷ ys)) (take_all (length (v ∷ w ∷ x ∷ y ∷ z ∷ ys) - 5) ys (omega arith)) a b c d e t before after p all some f g h i j k pair comma new told
