-- An integer narrowed to 64 bits is itself where it fits, and none where it does not.
use Rattle.std.proofs.Common.{◌≡◌, ◌^◌, ℤ, pos, negsuc, Bool, true, false, Option, Some, None, refl, ap, if◌then◌else◌, nat_lt}
use Rattle.std.specs.Prelude.{FitsSigned}
use Rattle.std.specs.Int.{w64}
use Rattle.std.specs.Option.{SomeIff}
use Rattle.std.proofs.lemmas.Bool.{ltb-true, lt-ltb}
use Rattle.sql_tree.specs.Evaluation.{narrow}

none_case : (b : Bool) (z : ℤ) → (b ≡ true → ⊥) → None ≡ (if b then Some z else None)
none_case true z h = absurd (h refl)
none_case false z h = refl

some_case : (b : Bool) (x z : ℤ) → b ≡ true → x ≡ z → Some x ≡ (if b then Some z else None)
some_case true x z e q = ap Some q
some_case false x z e q = cc

pub narrow_is : (z : ℤ) (r : Option ℤ) → SomeIff r (FitsSigned w64 z) z → r ≡ narrow z
narrow_is (pos n) None h = none_case (nat_lt n (2 ^ 63)) (pos n) (λ e. h (record { sfits = ltb-true n (2 ^ 63) e }))
narrow_is (negsuc n) None h = none_case (nat_lt n (2 ^ 63)) (negsuc n) (λ e. h (record { sfits = ltb-true n (2 ^ 63) e }))
narrow_is (pos n) (Some x) h = some_case (nat_lt n (2 ^ 63)) x (pos n) (lt-ltb n (2 ^ 63) (h.0.sfits)) h.1
narrow_is (negsuc n) (Some x) h = some_case (nat_lt n (2 ^ 63)) x (negsuc n) (lt-ltb n (2 ^ 63) (h.0.sfits)) h.1
