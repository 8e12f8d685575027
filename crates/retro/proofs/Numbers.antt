-- Numbers of few digits.
use Rattle.std.proofs.Common.{◌≡◌, ◌&&◌, ◌≤◌, ℕ, Bool, List, Result, Ok, true, false, refl, length, nat_le, arith, rules}
use Rattle.std.proofs.lemmas.Bool.Decides.{nat_tests}
use Rattle.std.specs.Char.{is_ascii_digit}
use Rattle.std.specs.List.{list_all}
use Rattle.std.specs.Str.Parse.{digits_value, ParsesUnsigned}
use Rattle.std.proofs.lemmas.Str.Parse.{IsNumeralModel, digits_value_short, numerals_by_value, parse_gives}
use Rattle.retro.specs.Words.{is_number}

are_numerals : IsNumeralModel (λ ds. list_all is_ascii_digit ds ≡ true) (digits_value 10)
are_numerals = numerals_by_value _ (search rules)

both : (a b : Bool) → (a && b) ≡ true → (a ≡ true) × (b ≡ true)
both true b e = (refl, e)
both false b e = absurd (search rules)

-- what is read of 1 to 10 digits
pub number_is_read : {E : Type 0} (word : List ℕ) (r : Result ℕ E) → is_number word ≡ true → ParsesUnsigned 64 10 word r → r ≡ Ok (digits_value 10 word)
number_is_read word r is read =
    let some = both (nat_le 1 (length word)) _ is in
    let few = both (nat_le (length word) 10) (list_all is_ascii_digit word) some.1 in
    let n : 1 ≤ length word = grind (arith, nat_tests, some.0) in
    let m : length word ≤ 10 = grind (arith, nat_tests, few.0) in
    parse_gives are_numerals 64 word r read few.1 (omega arith) (omega (arith, digits_value_short are_numerals word 10 few.1 m))
