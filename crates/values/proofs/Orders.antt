-- The order of values is total.
use Rattle.std.proofs.Common.{◌≡◌, ℕ, List, refl}
use Rattle.std.specs.Ordering.{int_cmp, nat_cmp, ordering_reverse}
use Rattle.std.specs.declared.cmp.Ordering.TheVariants.{Less, Equal}
use Rattle.std.specs.Cmp.{IsTotalOrder}
use Rattle.std.specs.Cmp.Lexicographic.{slice_cmp}
use Rattle.std.proofs.lemmas.Cmp.{int_cmp_total, nat_list_cmp_total}
use Rattle.values.specs.declared.value.Value.{Value}
use Rattle.values.specs.declared.value.Value.TheVariants.{Int, Text}
use Rattle.values.specs.Value.{value_cmp}

value_antisymm : (x y : Value) → value_cmp x y ≡ ordering_reverse (value_cmp y x)
value_antisymm (Int m) (Int n) = int_cmp_total.antisymm m n
value_antisymm (Int m) (Text t) = refl
value_antisymm (Text s) (Int n) = refl
value_antisymm (Text s) (Text t) = nat_list_cmp_total.antisymm s t

value_trans : (x y z : Value) → value_cmp x y ≡ Less → value_cmp y z ≡ Less → value_cmp x z ≡ Less
value_trans (Int l) (Int m) (Int n) p q = int_cmp_total.trans l m n p q
value_trans (Int l) (Int m) (Text u) p q = refl
value_trans (Int l) (Text t) (Int n) p q = cc
value_trans (Int l) (Text t) (Text u) p q = refl
value_trans (Text s) (Int m) z p q = cc
value_trans (Text s) (Text t) (Int n) p q = cc
value_trans (Text s) (Text t) (Text u) p q = nat_list_cmp_total.trans s t u p q

value_congr : (x y z : Value) → value_cmp x y ≡ Equal → value_cmp x z ≡ value_cmp y z
value_congr (Int l) (Int m) (Int n) p = int_cmp_total.congr l m n p
value_congr (Int l) (Int m) (Text u) p = refl
value_congr (Int l) (Text t) z p = cc
value_congr (Text s) (Int m) z p = cc
value_congr (Text s) (Text t) (Int n) p = refl
value_congr (Text s) (Text t) (Text u) p = nat_list_cmp_total.congr s t u p

-- comparing values is a total order
pub value_total : IsTotalOrder value_cmp
value_total = record { antisymm = value_antisymm; trans = value_trans; congr = value_congr }
