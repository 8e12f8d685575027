-- Values and rows that are the same are equal.
use Rattle.std.proofs.Common.{◌≡◌, ap, IsTrue, List, refl}
use Rattle.std.specs.Bool.{Decides}
use Rattle.std.specs.Cmp.{IsEquivalence, decided, signed_Decides, unsigned_Decides}
use Rattle.std.proofs.lemmas.Slice.Eq.{slice_eq-Decides}
use Rattle.values.specs.declared.value.Value.{Value}
use Rattle.values.specs.declared.value.Value.TheVariants.{Int, Text}
use Rattle.sql_select.specs.Same.{same_value, same_row, row_writes}

same_value-Decides : (x y : Value) → Decides (same_value x y) (x ≡ y)
same_value-Decides (Int m) (Int n) =
    let d = signed_Decides m n in (λ h. ap (λ z. Int z) (d.0 h), λ e. d.1 cc)
same_value-Decides (Int m) (Text t) = (λ h. cc, λ e. cc)
same_value-Decides (Text s) (Int n) = (λ h. cc, λ e. cc)
same_value-Decides (Text s) (Text t) =
    let d = slice_eq-Decides unsigned_Decides s t _ refl in (λ h. ap (λ z. Text z) (d.0 h), λ e. d.1 cc)

pub same_value_equiv : IsEquivalence same_value
same_value_equiv = decided same_value same_value-Decides

-- rows are the same exactly where they are equal
pub same_row-Decides : (a b : List Value) → Decides (same_row a b) (a ≡ b)
same_row-Decides a b = slice_eq-Decides same_value-Decides a b _ refl

pub same_row_equiv : IsEquivalence same_row
same_row_equiv = decided same_row same_row-Decides

pub same_rows_feed_alike : (a b : List Value) → IsTrue (same_row a b) → row_writes a ≡ row_writes b
same_rows_feed_alike a b h = ap row_writes ((same_row-Decides a b).0 h)
