-- The kinds of values, and their order.
use Rattle.std.specs.Prelude.{ℕ, List}
use Rattle.std.specs.Fmt.{signed_decimal}
use Rattle.std.specs.Cmp.Lexicographic.{slice_cmp}
use Rattle.std.specs.Ordering.{int_cmp, nat_cmp}
use Rattle.std.specs.declared.cmp.Ordering.{Ordering}
use Rattle.std.specs.declared.cmp.Ordering.TheVariants.{Less, Greater}
use Rattle.values.specs.declared.value.Kind.{Kind}
use Rattle.values.specs.declared.value.Kind.TheVariants as kind
use Rattle.values.specs.declared.value.Value.{Value}
use Rattle.values.specs.declared.value.Value.TheVariants.{Int, Text}

abbrev pub kind_of : Value → Kind
kind_of (Int n) = kind.Int
kind_of (Text t) = kind.Text

-- integers by number, texts by bytes; where the kinds differ, integers before texts
abbrev pub value_cmp : Value → Value → Ordering
value_cmp (Int m) (Int n) = int_cmp m n
value_cmp (Int m) (Text t) = Less
value_cmp (Text s) (Int n) = Greater
value_cmp (Text s) (Text t) = slice_cmp nat_cmp s t

-- an integer in decimal, a text as it is
abbrev pub text_of : Value → List ℕ
text_of (Int n) = signed_decimal n
text_of (Text t) = t
