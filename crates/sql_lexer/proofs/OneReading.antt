-- No line has two readings.
use Rattle.std.proofs.Common.{◌≡◌, ◌∙◌, ◌+◌, ℕ, true, List, [], ◌∷◌, ◌++◌, length, refl, sym, ap, subst, arith}
use Rattle.std.specs.List.{AllByRecursion}
use Rattle.std.proofs.lemmas.Bool.{false≢true}
use Rattle.std.proofs.lemmas.List.{append-nil}
use Rattle.values.specs.Text.{IsPrintable}
use Rattle.sql_lexer.specs.declared.token.Token.{Token}
use Rattle.sql_lexer.specs.declared.token.Token.TheVariants.{Text}
use Rattle.sql_lexer.specs.declared.token.Placed.{Placed}
use Rattle.sql_lexer.specs.declared.token.Ending.{Ending}
use Rattle.sql_lexer.specs.declared.token.Ending.TheVariants.{Whole, BadByte, Unclosed}
use Rattle.sql_lexer.specs.Lexes.{Lexes, whole, blank, token, bad_byte, unclosed, is_blank, EndsBefore, IsBadAt, outside, inside, IsUnclosed}
use Rattle.sql_lexer.specs.Token.{Spells, goes_on, quote, doubled}
use Rattle.sql_lexer.proofs.FirstTokens.{Quoted, Cut, kind_of, kind_of_bytes, not_blank, not_empty, blank_kind, front_kind, cut, same_first, quoted-append}
use Rattle.sql_lexer.proofs.OpenTexts.{Stops, ends, bad, closes, same_text}

-- a token at the front of the bytes
pub record First (bytes : List ℕ) (t : Token) (spelt rest : List ℕ) : Type 0 where
  pub is : bytes ≡ spelt ++ rest
  pub spells : Spells spelt t
  pub longest : EndsBefore (goes_on t) rest

-- a text that begins at the front of the bytes, and what stops it
record Opens (bytes text rest : List ℕ) : Type 0 where
  is : bytes ≡ quote ∷ (doubled text ++ rest)
  printable : AllByRecursion IsPrintable text
  stops : Stops rest

same_open : (bytes t u r s : List ℕ) → Opens bytes t r → Opens bytes u s → (t ≡ u) × (r ≡ s)
same_open bytes t u r s p q =
    let e : quote ∷ (doubled t ++ r) ≡ quote ∷ (doubled u ++ s) = sym p.is ∙ q.is in
    same_text t u r s p.printable q.printable p.stops q.stops cc

-- a bad byte in a text stops it
open_to_bad : (bytes text : List ℕ) (b : ℕ) (rest : List ℕ) → AllByRecursion IsPrintable text → (IsPrintable b → ⊥) → bytes ≡ quote ∷ doubled text ++ b ∷ rest → Opens bytes text (b ∷ rest)
open_to_bad bytes text b rest printable not_printable is = record { is = is; printable = printable; stops = bad not_printable }

open_to_end : (bytes : List ℕ) (h : IsUnclosed bytes) → Opens bytes h.0 []
open_to_end bytes h = record { is = h.2 ∙ ap (λ x. quote ∷ x) (sym (append-nil (doubled h.0))); printable = h.1; stops = ends }

-- a token where a text begins is one
open_to_token : (bytes : List ℕ) (t : Token) (spelt rest text tail : List ℕ) → First bytes t spelt rest → Opens bytes text tail → (inner : List ℕ) × Opens bytes inner (quote ∷ rest)
open_to_token bytes t spelt rest text tail first opens =
    let kind : kind_of t ≡ Quoted = sym (front_kind t spelt rest first.spells) ∙ ap kind_of_bytes (sym first.is ∙ opens.is) in
    let c : Cut Quoted spelt rest = subst (λ k. Cut k spelt rest) kind (cut t spelt rest first.spells first.longest) in
    (c.0, record { is = first.is ∙ ap (λ x. x ++ rest) c.2 ∙ quoted-append c.0 rest; printable = c.1; stops = closes c.3 })

-- a text has one end
not_bad : (bytes text rest : List ℕ) (b : ℕ) (more inner : List ℕ) → (IsPrintable b → ⊥) → Opens bytes text (b ∷ more) → Opens bytes inner (quote ∷ rest) → ⊥
not_bad bytes text rest b more inner not_printable p q =
    let same = same_open bytes text inner (b ∷ more) (quote ∷ rest) p q in
    let is : b ≡ quote = cc in
    not_printable (omega arith, omega arith)

token_bad : {offset : ℕ} {bytes : List ℕ} (t : Token) (spelt rest : List ℕ) → First bytes t spelt rest → IsBadAt offset bytes → ⊥
token_bad t spelt rest first (outside {b} {rest = more} no_blank none) = begun spelt first.is first.spells
  where
    begun : (w : List ℕ) → b ∷ more ≡ w ++ rest → Spells w t → ⊥
    begun [] is h = not_empty t h
    begun (c ∷ cs) is h = let same : c ≡ b = cc in none t cs (subst (λ x. Spells (x ∷ cs) t) same h)
token_bad t spelt rest first (inside {bytes} text b more printable not_printable is) =
    let opens = open_to_bad bytes text b more printable not_printable is in
    let closed = open_to_token bytes t spelt rest text (b ∷ more) first opens in
    not_bad bytes text rest b more closed.0 not_printable opens closed.1

token_unclosed : (bytes : List ℕ) (t : Token) (spelt rest : List ℕ) → First bytes t spelt rest → IsUnclosed bytes → ⊥
token_unclosed bytes t spelt rest first cut_off =
    let opens = open_to_end bytes cut_off in
    let closed = open_to_token bytes t spelt rest cut_off.0 [] first opens in
    let same = same_open bytes cut_off.0 closed.0 [] (quote ∷ rest) opens closed.1 in
    let e : [] ≡ quote ∷ rest = same.1 in cc

blank_token : (b : ℕ) (bs : List ℕ) (t : Token) (spelt rest : List ℕ) → is_blank b ≡ true → First (b ∷ bs) t spelt rest → ⊥
blank_token b bs t spelt rest is first =
    not_blank t (sym (front_kind t spelt rest first.spells) ∙ ap kind_of_bytes (sym first.is) ∙ blank_kind b is)

-- a quote is no blank
blank_quote : (b : ℕ) → is_blank b ≡ true → b ≡ quote → ⊥
blank_quote b is same = false≢true (sym (ap is_blank same) ∙ is)

blank_bad : {offset b : ℕ} {bs : List ℕ} → is_blank b ≡ true → IsBadAt offset (b ∷ bs) → ⊥
blank_bad is (outside no_blank none) = false≢true (sym no_blank ∙ is)
blank_bad {b = b} is (inside text c more printable not_printable e) = blank_quote b is cc

-- a quote begins a token
quote_begins : (b : ℕ) → b ≡ quote → ((t : Token) (more : List ℕ) → Spells (b ∷ more) t → ⊥) → ⊥
quote_begins b same none = none (Text []) (quote ∷ []) (ap (λ x. x ∷ quote ∷ []) same, (omega arith, tt))

same_bad : {offset other : ℕ} {bytes : List ℕ} → IsBadAt offset bytes → IsBadAt other bytes → offset ≡ other
same_bad (outside no_blank none) (outside no_blank' none') = refl
same_bad (outside {b} no_blank none) (inside text c more printable not_printable e) = let is : b ≡ quote = cc in absurd (quote_begins b is none)
same_bad (inside text c more printable not_printable e) (outside {b} no_blank none) = let is : b ≡ quote = cc in absurd (quote_begins b is none)
same_bad (inside {bytes} text c more printable not_printable e) (inside text' c' more' printable' not_printable' e') =
    let same = same_open bytes text text' (c ∷ more) (c' ∷ more') (open_to_bad bytes text c more printable not_printable e) (open_to_bad bytes text' c' more' printable' not_printable' e') in
    ap (λ t. 1 + length (doubled t)) same.0

bad_somewhere : {offset : ℕ} → IsBadAt offset [] → ⊥
bad_somewhere (inside text c more printable not_printable e) = cc

bad_unclosed : {offset : ℕ} {bytes : List ℕ} → IsBadAt offset bytes → IsUnclosed bytes → ⊥
bad_unclosed (outside {b} no_blank none) cut_off = let e = cut_off.2 in let is : b ≡ quote = cc in quote_begins b is none
bad_unclosed (inside {bytes} text c more printable not_printable e) cut_off =
    let same = same_open bytes text cut_off.0 (c ∷ more) [] (open_to_bad bytes text c more printable not_printable e) (open_to_end bytes cut_off) in
    let f : c ∷ more ≡ [] = same.1 in cc

after_none : {place : ℕ} {tokens : List Placed} {ending : Ending} → Lexes place [] tokens ending → ([] ≡ tokens) × (Whole ≡ ending)
after_none whole = (refl, refl)
after_none (token t [] rest is h longest more) = absurd (not_empty t h)
after_none (token t (b ∷ bs) rest is h longest more) = absurd cc
after_none (bad_byte h) = absurd (bad_somewhere h)
after_none (unclosed cut_off) = let e = cut_off.2 in absurd cc

after_blank : {place b : ℕ} {bs : List ℕ} {tokens : List Placed} {ending : Ending} → is_blank b ≡ true → Lexes place (b ∷ bs) tokens ending → Lexes (place + 1) bs tokens ending
after_blank is (blank is' rest) = rest
after_blank {b = b} {bs = bs} is (token t spelt rest e h longest more) = absurd (blank_token b bs t spelt rest is (record { is = e; spells = h; longest = longest }))
after_blank is (bad_byte h) = absurd (blank_bad is h)
after_blank {b = b} is (unclosed cut_off) = let e = cut_off.2 in absurd (blank_quote b is cc)

after_token : {place : ℕ} {bytes : List ℕ} {tokens : List Placed} {ending : Ending} (t : Token) (spelt rest : List ℕ) → First bytes t spelt rest → Lexes place bytes tokens ending
    → (others : List Placed) × (record { token = t; place = place } ∷ others ≡ tokens) × Lexes (place + length spelt) rest others ending
after_token t [] rest first whole = absurd (not_empty t first.spells)
after_token t (b ∷ bs) rest first whole = let e = first.is in absurd cc
after_token t spelt rest first (blank {b = b} {rest = bs} is more) = absurd (blank_token b bs t spelt rest is first)
after_token {place = place} {ending = ending} t spelt rest first (token {tokens = others} u v s e h longest more) =
    let same = same_first t u spelt v rest s first.spells h first.longest longest (sym first.is ∙ e) in
    let P : List ℕ → List ℕ → Type 0 = λ x y. Lexes (place + length x) y others ending in
    (others, ap (λ x. record { token = x; place = place } ∷ others) same.0, subst (λ x. P x rest) (sym same.1) (subst (P v) (sym same.2) more))
after_token t spelt rest first (bad_byte h) = absurd (token_bad t spelt rest first h)
after_token {bytes = bytes} t spelt rest first (unclosed cut_off) = absurd (token_unclosed bytes t spelt rest first cut_off)

after_bad : {place offset : ℕ} {bytes : List ℕ} {tokens : List Placed} {ending : Ending} → IsBadAt offset bytes → Lexes place bytes tokens ending → ([] ≡ tokens) × (BadByte (place + offset) ≡ ending)
after_bad h whole = absurd (bad_somewhere h)
after_bad h (blank is more) = absurd (blank_bad is h)
after_bad h (token t spelt rest e spells longest more) = absurd (token_bad t spelt rest (record { is = e; spells = spells; longest = longest }) h)
after_bad {place = place} h (bad_byte h') = (refl, ap (λ o. BadByte (place + o)) (same_bad h h'))
after_bad h (unclosed cut_off) = absurd (bad_unclosed h cut_off)

after_unclosed : {place : ℕ} {bytes : List ℕ} {tokens : List Placed} {ending : Ending} → IsUnclosed bytes → Lexes place bytes tokens ending → ([] ≡ tokens) × (Unclosed ≡ ending)
after_unclosed cut_off whole = let e = cut_off.2 in absurd cc
after_unclosed cut_off (blank {b = b} is more) = let e = cut_off.2 in let same : b ≡ quote = cc in absurd (blank_quote b is same)
after_unclosed {bytes = bytes} cut_off (token t spelt rest e spells longest more) = absurd (token_unclosed bytes t spelt rest (record { is = e; spells = spells; longest = longest }) cut_off)
after_unclosed cut_off (bad_byte h) = absurd (bad_unclosed h cut_off)
after_unclosed cut_off (unclosed cut_off') = (refl, refl)

pub one_reading : {place : ℕ} {bytes : List ℕ} {tokens others : List Placed} {ending other : Ending} → Lexes place bytes tokens ending → Lexes place bytes others other → (tokens ≡ others) × (ending ≡ other)
one_reading whole d = after_none d
one_reading (blank is rest) d = one_reading rest (after_blank is d)
one_reading (token {place = place} t spelt rest e spells longest more) d =
    let next = after_token t spelt rest (record { is = e; spells = spells; longest = longest }) d in
    let same = one_reading more next.2 in
    (ap (λ x. record { token = t; place = place } ∷ x) same.0 ∙ next.1, same.1)
one_reading (bad_byte h) d = after_bad h d
one_reading (unclosed cut_off) d = after_unclosed cut_off d
