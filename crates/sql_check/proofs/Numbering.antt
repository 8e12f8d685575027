-- The name of an output that has none of its own is a name.
use Rattle.std.proofs.Common.{◌≡◌, ◌∙◌, ℕ, ◌+◌, ◌/◌, ◌%◌, ◌<◌, ◌≤◌, ◌^◌, Bool, true, false, ◌&&◌, ◌||◌, List, [], ◌∷◌, ◌++◌, length, refl, ap, arith}
use Rattle.std.specs.Prelude.{nat_le}
use Rattle.std.specs.Fmt.{decimal}
use Rattle.std.specs.List.{list_all}
use Rattle.std.proofs.lemmas.Bool.{le-leb}
use Rattle.std.proofs.lemmas.Fmt.{decimal_by_steps, length-decimal-le}
use Rattle.std.proofs.lemmas.List.Folds.{list_all-append}
use Rattle.values.specs.Name.{IsName, begins_word, continues_word}
use Rattle.sql_check.specs.Outputs.{numbered_name}

or_true : (a : Bool) → a || true ≡ true
or_true true = refl
or_true false = refl

both_true : (a b : Bool) → a ≡ true → b ≡ true → a && b ≡ true
both_true a b p q = ap (λ x. x && b) p ∙ q

digit : (d : ℕ) → d < 10 → continues_word (48 + d) ≡ true
digit d small =
    let low : nat_le 48 (48 + d) ≡ true = le-leb 48 (48 + d) (omega arith) in
    let high : nat_le (48 + d) 57 ≡ true = le-leb (48 + d) 57 (omega arith) in
    ap (λ x. begins_word (48 + d) || x) (both_true _ _ low high) ∙ or_true _

abbrev AreDigits : ℕ → List ℕ → Type 0
AreDigits n digits = list_all continues_word digits ≡ true

one : (n : ℕ) → n < 10 → AreDigits n ((48 + n) ∷ [])
one n small = both_true _ _ (digit n small) refl

more : (n : ℕ) (digits : List ℕ) → 10 ≤ n → AreDigits (n / 10) digits → AreDigits n (digits ++ ((48 + n % 10) ∷ []))
more n digits large before = list_all-append continues_word digits ((48 + n % 10) ∷ []) ∙ both_true _ _ before (one (n % 10) (omega arith))

pub IsName-numbered : (place : ℕ) → place < 2 ^ 64 → IsName (numbered_name place)
IsName-numbered place small =
    let digits : list_all continues_word (decimal place) ≡ true = decimal_by_steps AreDigits one more place small in
    let short : length (decimal place) ≤ 20 = length-decimal-le 20 place (omega arith) (omega arith) small in
    (refl, digits, omega (arith, short))
