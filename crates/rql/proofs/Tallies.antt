-- Tallies, one value more at a time.
use Rattle.std.proofs.Common.{◌≡◌, ◌∙◌, ◌+ℤ◌, ℕ, ℤ, pos, Bool, true, false, List, [], ◌∷◌, ◌++◌, Result, Ok, Err, ap, arith, refl, sym, if◌then◌else◌}
use Rattle.std.proofs.lemmas.Int.{ints}
use Rattle.std.proofs.Math.IntN.{+ℤ_assoc}
use Rattle.retro_base.specs.Gives.{◌>>=◌}
use Rattle.retro_base.specs.declared.refusal.Refusal.{Refusal}
use Rattle.retro_base.specs.declared.refusal.Refusal.TheVariants.{WrongType}
use Rattle.values.specs.declared.value.Value.{Value}
use Rattle.values.specs.declared.value.Value.TheVariants.{Int, Text}
use Rattle.sql_select.specs.Aggregates.{number_of, total}
use Rattle.sql_select.specs.Each.{each}
use Rattle.rql.specs.Aggregates.{in_parts}
use Rattle.rql.specs.Tallies.{AddsValue, summed}
use Rattle.rql.specs.declared.function.Function.{Function}
use Rattle.rql.specs.declared.function.Function.TheVariants.{Min, Max, Sum, Count}
use Rattle.rql.specs.declared.tally.Tally.{Tally}

summed-int : (n : ℤ) (rest : Result (List ℤ) Refusal)
    → (rest >>= (λ ns. Ok (n ∷ ns))) >>= (λ ns. Ok (total ns)) ≡ (rest >>= (λ ns. Ok (total ns))) >>= (λ s. Ok (n +ℤ s))
summed-int n (Ok ns) = refl
summed-int n (Err why) = refl

summed-cons : (n : ℤ) (values : List Value) → summed (Int n ∷ values) ≡ summed values >>= (λ s. Ok (n +ℤ s))
summed-cons n values = summed-int n (each number_of values)

abbrev with_value : Value → Result ℤ Refusal → Result ℤ Refusal
with_value value sum = sum >>= (λ s. number_of value >>= (λ n. Ok (s +ℤ n)))

both : (n : ℤ) (sum : Result ℤ Refusal) (value : Value)
    → with_value value sum >>= (λ s. Ok (n +ℤ s)) ≡ with_value value (sum >>= (λ s. Ok (n +ℤ s)))
both n (Err why) value = refl
both n (Ok s) (Text t) = refl
both n (Ok s) (Int m) = ap (λ z. Ok z) (sym (+ℤ_assoc n s m))

-- the sum, with a value more
pub summed_more : (values : List Value) (value : Value)
    → summed (values ++ value ∷ []) ≡ with_value value (summed values)
summed_more [] (Text t) = refl
summed_more [] (Int n) = ap (λ z. Ok z) (turned n)
  where
    turned : (n : ℤ) → n +ℤ pos 0 ≡ pos 0 +ℤ n
    turned n = omega (arith, ints)
summed_more (Text t ∷ values) value = refl
summed_more (Int n ∷ values) value =
    summed-cons n (values ++ value ∷ []) ∙ ap (λ r. r >>= (λ s. Ok (n +ℤ s))) (summed_more values value) ∙ both n (summed values) value
    ∙ sym (ap (with_value value) (summed-cons n values))

abbrev shown : Bool → ℤ → Result ℤ Refusal
shown has_text sum = if has_text then Err WrongType else Ok sum

-- a number more
number_more : (has_text : Bool) (sum after n : ℤ) (values : List Value) → after ≡ sum +ℤ n
    → shown has_text sum ≡ summed values → shown has_text after ≡ summed (values ++ Int n ∷ [])
number_more true sum after n values added e = sym (summed_more values (Int n) ∙ sym (ap (with_value (Int n)) e))
number_more false sum after n values added e = sym (summed_more values (Int n) ∙ sym (ap (with_value (Int n)) e) ∙ ap (λ z. Ok z) (sym added))

-- a text more
text_more : (has_text : Bool) (sum : ℤ) (t : List ℕ) (values : List Value) → shown has_text sum ≡ summed values
    → shown true sum ≡ summed (values ++ Text t ∷ [])
text_more true sum t values e = sym (summed_more values (Text t) ∙ sym (ap (with_value (Text t)) e))
text_more false sum t values e = sym (summed_more values (Text t) ∙ sym (ap (with_value (Text t)) e))

-- a number goes into a sum
pub adds_number : (function : Function) (value : Value) (old new : Tally) (n m : ℤ) → function ≡ Sum → value ≡ Int n
    → new.has_text ≡ old.has_text
    → in_parts new.sum.high new.sum.low ≡ in_parts old.sum.high old.sum.low +ℤ m → m ≡ n → AddsValue function value old new
adds_number Min value old new n m is_sum is_int same added e values is = absurd cc
adds_number Max value old new n m is_sum is_int same added e values is = absurd cc
adds_number Count value old new n m is_sum is_int same added e values is = absurd cc
adds_number Sum value old new n m is_sum is_int same added e values is =
    ap (λ b. shown b (in_parts new.sum.high new.sum.low)) same
    ∙ number_more old.has_text (in_parts old.sum.high old.sum.low) (in_parts new.sum.high new.sum.low) n values (added ∙ ap (λ z. in_parts old.sum.high old.sum.low +ℤ z) e) is
    ∙ ap (λ v. summed (values ++ v ∷ [])) (sym is_int)

-- a text goes into a sum
pub adds_text : (function : Function) (value : Value) (old new : Tally) (t : List ℕ) → function ≡ Sum → value ≡ Text t
    → new.has_text ≡ true → AddsValue function value old new
adds_text Min value old new t is_sum is_text has values is = absurd cc
adds_text Max value old new t is_sum is_text has values is = absurd cc
adds_text Count value old new t is_sum is_text has values is = absurd cc
adds_text Sum value old new t is_sum is_text has values is =
    ap (λ b. shown b (in_parts new.sum.high new.sum.low)) has
    ∙ text_more old.has_text (in_parts old.sum.high old.sum.low) t values is
    ∙ ap (λ v. summed (values ++ v ∷ [])) (sym is_text)
