-- Numbers in a high and a low part.
use Rattle.std.proofs.Common.{◌≡◌, ◌∙◌, ◌^◌, ℤ, pos, negsuc, zero, suc, ◌+ℤ◌, ◌-ℤ◌, ◌*ℤ◌, Option, Some, None, arith, ap, refl, sym}
use Rattle.std.specs.Option.{SomeIff}
use Rattle.std.proofs.lemmas.Int.{ints}
use Rattle.std.proofs.Math.IntN.{pred_ℤ, pred_ℤ-*ℤ, suc_ℤ, suc_ℤ-*ℤ}
use Rattle.rql.specs.Aggregates.{in_parts}

-- a sum or difference that is within bounds
pub some_is : (found : Option ℤ) (P : Type 0) (value x : ℤ) → SomeIff found P value → found ≡ Some x → x ≡ value
some_is None P value x says e = absurd cc
some_is (Some y) P value x says e = let same : y ≡ x = cc in sym same ∙ says.1

suc_is : (m : ℤ) → m +ℤ pos 1 ≡ suc_ℤ m
suc_is (pos n) = omega (arith, ints)
suc_is (negsuc zero) = refl
suc_is (negsuc (suc n)) = omega (arith, ints)

pred_is : (m : ℤ) → m -ℤ pos 1 ≡ pred_ℤ m
pred_is (pos zero) = refl
pred_is (pos (suc n)) = omega (arith, ints)
pred_is (negsuc n) = omega (arith, ints)

abbrev unit : ℤ
unit = pos (2 ^ 64)

-- one of the high part, from the low part
pub up_is : (high low more x y : ℤ) → x ≡ high +ℤ pos 1 → y ≡ (low +ℤ more) -ℤ unit → in_parts x y ≡ in_parts high low +ℤ more
up_is high low more x y h l =
    let high_is : x *ℤ unit ≡ (high *ℤ unit) +ℤ unit = ap (λ z. z *ℤ unit) (h ∙ suc_is high) ∙ suc_ℤ-*ℤ high unit in
    ap (λ z. z +ℤ y) high_is ∙ ap (λ z. ((high *ℤ unit) +ℤ unit) +ℤ z) l ∙ moved (high *ℤ unit) low more
  where
    moved : (a low more : ℤ) → (a +ℤ unit) +ℤ ((low +ℤ more) -ℤ unit) ≡ (a +ℤ low) +ℤ more
    moved a low more = omega (arith, ints)

-- one of the high part, into the low part
pub down_is : (high low more x y : ℤ) → x ≡ high -ℤ pos 1 → y ≡ (low +ℤ more) +ℤ unit → in_parts x y ≡ in_parts high low +ℤ more
down_is high low more x y h l =
    let high_is : x *ℤ unit ≡ (high *ℤ unit) -ℤ unit = ap (λ z. z *ℤ unit) (h ∙ pred_is high) ∙ pred_ℤ-*ℤ high unit in
    ap (λ z. z +ℤ y) high_is ∙ ap (λ z. ((high *ℤ unit) -ℤ unit) +ℤ z) l ∙ moved (high *ℤ unit) low more
  where
    moved : (a low more : ℤ) → (a -ℤ unit) +ℤ ((low +ℤ more) +ℤ unit) ≡ (a +ℤ low) +ℤ more
    moved a low more = omega (arith, ints)
