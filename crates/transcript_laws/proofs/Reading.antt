-- Texts that are read one way: what stands before the first of a mark, and fields of a line between blanks.
use Rattle.std.proofs.Common.{◌≡◌, ◌+◌, ◌++◌, ◌==◌, ◌/◌, ◌%◌, ◌≤◌, ◌<◌, ◌^◌, ℕ, Bool, true, false, cond, List, [], ◌∷◌, refl, subst, arith, suc, zero}
use Rattle.std.specs.Prelude.{◌&&◌, nat_lt}
use Rattle.std.specs.List.{AllByRecursion, list_all}
use Rattle.std.specs.Fmt.{decimal, digit_glyph, digits, digits_onto}
use Rattle.std.specs.Str.Parse.{AllDigits, digits_value}
use Rattle.std.proofs.lemmas.Bool.Decides.{nat_tests}
use Rattle.std.proofs.lemmas.Fmt.{digits_decimal}
use Rattle.std.proofs.lemmas.Str.Parse.{IsNumeralModel, tells_digits}

-- each byte is greater than this one
abbrev pub Above : ℕ → List ℕ → Type 0
Above mark bytes = AllByRecursion (λ (byte : ℕ). mark < byte) bytes

pub above_less : (less mark : ℕ) (bytes : List ℕ) → less ≤ mark → Above mark bytes → Above less bytes
above_less less mark [] small a = tt
above_less less mark (byte ∷ bytes) small a = (omega (arith, a.0), above_less less mark bytes small a.1)

pub above_append : (mark : ℕ) (xs ys : List ℕ) → Above mark xs → Above mark ys → Above mark (xs ++ ys)
above_append mark [] ys a b = b
above_append mark (x ∷ xs) ys a b = (a.0, above_append mark xs ys a.1 b)

pub above_by : (mark : ℕ) (bytes : List ℕ) → list_all (nat_lt mark) bytes ≡ true → Above mark bytes
above_by mark [] e = tt
above_by mark (byte ∷ bytes) e = by_test (nat_lt mark byte) refl e (λ more. above_by mark bytes more)
  where
    by_test : (more : Bool) → nat_lt mark byte ≡ more → (more && list_all (nat_lt mark) bytes) ≡ true
        → (list_all (nat_lt mark) bytes ≡ true → Above mark bytes) → (mark < byte) × Above mark bytes
    by_test true is e rest = (grind (arith, nat_tests, is), rest e)
    by_test false is e rest = cc

-- what stands before the first of a mark, and behind it
pub cut_same : (mark : ℕ) (xs ys r s : List ℕ) → Above mark xs → Above mark ys → xs ++ mark ∷ r ≡ ys ++ mark ∷ s
    → (xs ≡ ys) × (r ≡ s)
cut_same mark [] [] r s a b e = (refl, cc)
cut_same mark [] (y ∷ ys) r s a b e =
    let is : mark ≡ y = cc in
    absurd (omega (arith, is, b.0))
cut_same mark (x ∷ xs) [] r s a b e =
    let is : x ≡ mark = cc in
    absurd (omega (arith, is, a.0))
cut_same mark (x ∷ xs) (y ∷ ys) r s a b e =
    let head : x ≡ y = cc in
    let tail : xs ++ mark ∷ r ≡ ys ++ mark ∷ s = cc in
    let same = cut_same mark xs ys r s a.1 b.1 tail in
    ((λ i. head i ∷ same.0 i), same.1)

-- ---- numbers

glyph_above : (n : ℕ) → 32 < digit_glyph false n
glyph_above n = by_test (nat_lt n 10)
  where
    by_test : (small : Bool) → 32 < cond small (48 + n) (87 + n)
    by_test true = omega arith
    by_test false = omega arith

onto_above : (k n : ℕ) (more : List ℕ) → Above 32 more → Above 32 (digits_onto k 10 false n more)
onto_above zero n more a = a
onto_above (suc k) n more a =
    by_test (n / 10 == 0)
    (onto_above k (n / 10) (digit_glyph false (n % 10) ∷ more) (glyph_above (n % 10), a))
  where
    by_test : (last : Bool) → Above 32 (digits_onto k 10 false (n / 10) (digit_glyph false (n % 10) ∷ more))
        → Above 32 (cond last (digit_glyph false (n % 10) ∷ more)
        (digits_onto k 10 false (n / 10) (digit_glyph false (n % 10) ∷ more)))
    by_test true rest = (glyph_above (n % 10), a)
    by_test false rest = rest

pub decimal_above : (n : ℕ) → Above 32 (decimal n)
unfolding digits
decimal_above n = onto_above 64 n [] tt

own_digits : IsNumeralModel (AllDigits 10) (digits_value 10)
own_digits = record { to = λ ds d. d; from = λ ds d. d; same = λ ds d. refl }

-- a number of 64 bits is no word that begins with a letter
pub no_letter : (n letter : ℕ) (word : List ℕ) → n < 2 ^ 64 → 57 < letter → decimal n ≡ letter ∷ word → ⊥
no_letter n letter word h high e =
    let first = tells_digits.parts letter word (subst (AllDigits 10) e (digits_decimal own_digits n h)) in
    omega (arith, first.0.1, high)

-- ---- lines

-- the fields of a line, with blanks between them
abbrev pub fields : List ℕ → List ℕ → List ℕ → List ℕ → List ℕ
fields phase name item text = phase ++ 32 ∷ (name ++ 32 ∷ (item ++ 32 ∷ text))

fields_above : (phase name item text : List ℕ) → Above 32 phase → Above 32 name → Above 32 item → Above 10 text
    → Above 10 (fields phase name item text)
fields_above phase name item text p n i t =
    above_append 10 phase (32 ∷ (name ++ 32 ∷ (item ++ 32 ∷ text))) (above_less 10 32 phase (omega arith) p) (
      omega arith,
      above_append 10 name (32 ∷ (item ++ 32 ∷ text)) (above_less 10 32 name (omega arith) n)
          (omega arith, above_append 10 item (32 ∷ text) (above_less 10 32 item (omega arith) i) (omega arith, t)),
    )

-- a line and what stands behind it are read one way
pub line_same : (phase name item text phase' name' item' text' r s : List ℕ)
    → Above 32 phase → Above 32 name → Above 32 item → Above 10 text
    → Above 32 phase' → Above 32 name' → Above 32 item' → Above 10 text'
    → fields phase name item text ++ 10 ∷ r ≡ fields phase' name' item' text' ++ 10 ∷ s
    → (phase ≡ phase') × (name ≡ name') × (item ≡ item') × (text ≡ text') × (r ≡ s)
line_same phase name item text phase' name' item' text' r s p n i t p' n' i' t' e =
    let whole = cut_same 10 (fields phase name item text) (fields phase' name' item' text') r s
    (fields_above phase name item text p n i t) (fields_above phase' name' item' text' p' n' i' t') e in
    let first = cut_same 32 phase phase' (name ++ 32 ∷ (item ++ 32 ∷ text)) (name' ++ 32 ∷ (item' ++ 32 ∷ text')) p p' whole.0 in
    let second = cut_same 32 name name' (item ++ 32 ∷ text) (item' ++ 32 ∷ text') n n' first.1 in
    let third = cut_same 32 item item' text text' i i' second.1 in
    (first.0, second.0, third.0, third.1, whole.1)
