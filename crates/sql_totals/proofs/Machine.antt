-- A number of a machine integer is itself where it fits, and none where it does not.
use Rattle.std.proofs.Common.{◌≡◌, ◌^◌, ◌<◌, ℕ, ℤ, pos, negsuc, Bool, true, false, Option, Some, None, refl, ap, if◌then◌else◌, nat_lt}
use Rattle.std.specs.Prelude.{FitsSigned}
use Rattle.std.specs.Int.{w128}
use Rattle.std.specs.Option.{SomeIff}
use Rattle.std.proofs.lemmas.Bool.{ltb-true, lt-ltb}
use Rattle.sql_totals.specs.Totals.{counted, wide}

module _ {X : Type 0} where
  none_case : (b : Bool) (x : X) → (b ≡ true → ⊥) → None ≡ (if b then Some x else None)
  none_case true x h = absurd (h refl)
  none_case false x h = refl

  some_case : (b : Bool) (found x : X) → b ≡ true → found ≡ x → Some found ≡ (if b then Some x else None)
  some_case true found x e q = ap (λ v. Some v) q
  some_case false found x e q = cc

pub wide_is : (z : ℤ) (r : Option ℤ) → SomeIff r (FitsSigned w128 z) z → r ≡ wide z
wide_is (pos n) None h = none_case (nat_lt n (2 ^ 127)) (pos n) (λ e. h (record { sfits = ltb-true n (2 ^ 127) e }))
wide_is (negsuc n) None h = none_case (nat_lt n (2 ^ 127)) (negsuc n) (λ e. h (record { sfits = ltb-true n (2 ^ 127) e }))
wide_is (pos n) (Some x) h = some_case (nat_lt n (2 ^ 127)) x (pos n) (lt-ltb n (2 ^ 127) (h.0.sfits)) h.1
wide_is (negsuc n) (Some x) h = some_case (nat_lt n (2 ^ 127)) x (negsuc n) (lt-ltb n (2 ^ 127) (h.0.sfits)) h.1

pub counted_is : (n : ℕ) (r : Option ℕ) → SomeIff r (n < 2 ^ 64) n → r ≡ counted n
counted_is n None h = none_case (nat_lt n (2 ^ 64)) n (λ e. h (ltb-true n (2 ^ 64) e))
counted_is n (Some x) h = some_case (nat_lt n (2 ^ 64)) x n (lt-ltb n (2 ^ 64) h.0) h.1
