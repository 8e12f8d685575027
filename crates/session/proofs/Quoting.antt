-- The text that `csv` writes for a row of printable texts is the row's text.
use Rattle.std.proofs.Common.{◌≡◌, ◌<◌, ◌^◌, ◌++◌, ◌==◌, ◌||◌, ℕ, ℤ, pos, negsuc, Bool, true, false, cond, List, [], ◌∷◌, length, map, refl, ap, ◌∙◌, arith, suc}
use Rattle.std.proofs.lemmas.Bool.Decides.{nat_tests}
use Rattle.std.proofs.lemmas.Fmt.{digits_decimal}
use Rattle.std.proofs.lemmas.Str.Parse.{IsNumeralModel, tells_digits}
use Rattle.std.specs.Fmt.{decimal, signed_decimal}
use lib.Signed.{mag}
use Rattle.std.specs.List.{AllByRecursion, list_any}
use Rattle.std.specs.Str.Parse.{AllDigits, digits_value}
use Rattle.csv.specs.Quoting.{needs_byte}
use Rattle.csv.specs.Writing.{default_writer, escaped, fields_text as csv_fields, field_text as csv_field, is_blank, needs_quotes, row_text as csv_text}
use Rattle.values.specs.Text.{IsPrintable}
use Rattle.values.specs.Value.{text_of}
use Rattle.values.specs.declared.value.Value.{Value}
use Rattle.session.specs.Line.{line}
use Rattle.session.specs.Rows.{IsShown, is_mark, doubled, field_text, more_fields, fields_text, row_text}

-- a text of printable bytes
abbrev pub Printable : List ℕ → Type 0
Printable text = AllByRecursion IsPrintable text

mark_same : (byte : ℕ) → IsPrintable byte → needs_byte default_writer byte ≡ is_mark byte
mark_same byte p =
    let feed : (byte == 10) ≡ false = grind (arith, nat_tests, p.0) in
    let return : (byte == 13) ≡ false = grind (arith, nat_tests, p.0) in
    by_tests (byte == 44) (byte == 34) feed return
  where
    by_tests : (comma quote : Bool) → (byte == 10) ≡ false → (byte == 13) ≡ false → (comma || quote || ((byte == 13) || (byte == 10)) || false || false) ≡ (comma || quote)
    by_tests true true e f = refl
    by_tests true false e f = refl
    by_tests false true e f = refl
    by_tests false false e f = rw (e, f) refl

any_same : (text : List ℕ) → Printable text → needs_quotes default_writer text ≡ list_any is_mark text
any_same [] p = refl
any_same (byte ∷ text) p = rw (mark_same byte p.0, any_same text p.1) refl

doubled_same : (text : List ℕ) → escaped default_writer text ≡ doubled text
unfolding escaped
doubled_same [] = refl
doubled_same (byte ∷ text) = by_test (byte == 34) refl (doubled_same text)
  where
    is_quote : (byte == 34) ≡ true → byte ≡ 34
    is_quote e = grind (arith, nat_tests)

    by_test : (quote : Bool) → (byte == 34) ≡ quote → escaped default_writer text ≡ doubled text
        → cond quote (34 ∷ byte ∷ escaped default_writer text) (byte ∷ escaped default_writer text) ≡ cond quote (34 ∷ 34 ∷ doubled text) (byte ∷ doubled text)
    by_test true e rest = rw (is_quote e, rest) refl
    by_test false e rest = rw rest refl

field_same : (text : List ℕ) → Printable text → csv_field default_writer text ≡ field_text text
field_same text p = rw (any_same text p, doubled_same text) refl

more_same : (texts : List (List ℕ)) → AllByRecursion Printable texts → csv_fields default_writer texts ≡ more_fields texts
unfolding csv_fields
more_same [] p = refl
more_same (text ∷ texts) p = rw (field_same text p.0, more_same texts p.1) refl

some_shown : (byte : ℕ) (text : List ℕ) → (length (csv_field default_writer (byte ∷ text)) == 0) ≡ false
some_shown byte text = by_test (needs_quotes default_writer (byte ∷ text))
  where
    by_test : (quotes : Bool) → (length (cond quotes (34 ∷ (escaped default_writer (byte ∷ text) ++ 34 ∷ [])) (byte ∷ text)) == 0) ≡ false
    by_test true = grind (arith, nat_tests)
    by_test false = grind (arith, nat_tests)

one_shown : (shown : List ℕ) (blank : Bool) → blank ≡ false → (shown ++ []) ++ (cond blank (34 ∷ 34 ∷ []) [] ++ 10 ∷ []) ≡ (shown ++ []) ++ 10 ∷ []
one_shown shown blank e = rw e refl

body_same : (text : List ℕ) (texts : List (List ℕ)) → AllByRecursion Printable (text ∷ texts) → csv_field default_writer text ++ csv_fields default_writer texts ≡ field_text text ++ more_fields texts
body_same text texts p = rw (field_same text p.0, more_same texts p.1) refl

texts_same : (texts : List (List ℕ)) → AllByRecursion Printable texts → csv_text default_writer texts ≡ line (fields_text texts)
unfolding csv_fields is_blank
texts_same [] p = refl
texts_same ([] ∷ []) p = refl
texts_same ((byte ∷ text) ∷ []) p =
    one_shown (csv_field default_writer (byte ∷ text)) (length (csv_field default_writer (byte ∷ text)) == 0) (some_shown byte text)
    ∙ ap (λ (shown : List ℕ). (shown ++ []) ++ 10 ∷ []) (field_same (byte ∷ text) p.0)
texts_same ([] ∷ second ∷ more) p = ap (λ (shown : List ℕ). shown ++ 10 ∷ []) (body_same [] (second ∷ more) p)
texts_same ((byte ∷ text) ∷ second ∷ more) p = ap (λ (shown : List ℕ). shown ++ 10 ∷ []) (body_same (byte ∷ text) (second ∷ more) p)

-- the digits of a number are printable
digits_printable : (digits : List ℕ) → AllDigits 10 digits → Printable digits
digits_printable [] d = tt
digits_printable (c ∷ cs) d =
    let first = tells_digits.parts c cs d in
    ((omega (arith, first.0.0), omega (arith, first.0.1)), digits_printable cs first.1)

own_digits : IsNumeralModel (AllDigits 10) (digits_value 10)
own_digits = record { to = λ ds d. d; from = λ ds d. d; same = λ ds d. refl }

decimal_printable : (n : ℕ) → n < 2 ^ 64 → Printable (decimal n)
decimal_printable n h = digits_printable (decimal n) (digits_decimal own_digits n h)

pub signed_printable : (n : ℤ) → mag n < 2 ^ 63 → Printable (signed_decimal n)
signed_printable (pos n) h = decimal_printable n (omega arith)
signed_printable (negsuc n) h = ((omega arith, omega arith), decimal_printable (suc n) (omega arith))

-- the texts of a row are printable
texts_shown : (row : List Value) → AllByRecursion IsShown row → AllByRecursion Printable (map text_of row)
texts_shown [] p = tt
texts_shown (value ∷ row) p = (p.0, texts_shown row p.1)

pub row_same : (row : List Value) → AllByRecursion IsShown row → csv_text default_writer (map text_of row) ≡ row_text row
row_same row p = texts_same (map text_of row) (texts_shown row p)

pub shown_push : (row : List Value) (value : Value) → AllByRecursion IsShown row → IsShown value → AllByRecursion IsShown (row ++ value ∷ [])
shown_push [] value a p = (p, tt)
shown_push (other ∷ row) value a p = (a.0, shown_push row value a.1 p)
