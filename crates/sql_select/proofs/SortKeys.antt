-- Keys order rows totally, up to ties.
use Rattle.std.proofs.Common.{List, [], ◌∷◌, refl}
use Rattle.std.specs.Cmp.{IsStrictWeakOrder, IsTotalOrder}
use Rattle.std.specs.Cmp.Lexicographic.{options_total}
use Rattle.std.proofs.lemmas.Cmp.{on_total, then_total, back_total}
use Rattle.std.proofs.lemmas.List.Sorted.{ranks_by}
use Rattle.std.specs.Ordering.{is_lt}
use Rattle.values.proofs.Orders.{value_total}
use Rattle.sql_tree.specs.declared.select.Direction.{Direction}
use Rattle.sql_tree.specs.declared.select.Direction.TheVariants.{Ascending, Descending}
use Rattle.sql_select.specs.declared.ordering.KeyPlace.{KeyPlace}
use Rattle.sql_select.specs.declared.ordering.SortKey.{SortKey}
use Rattle.sql_select.specs.Order.{value_at, directed, place_cmp, keys_cmp}

place_total : (place : KeyPlace) → IsTotalOrder (place_cmp place)
place_total place = on_total (value_at place) (options_total value_total)

directed_total : (direction : Direction) (place : KeyPlace) → IsTotalOrder (directed direction (place_cmp place))
directed_total Ascending place = place_total place
directed_total Descending place = back_total (place_total place)

pub keys_total : (keys : List SortKey) → IsTotalOrder (keys_cmp keys)
keys_total [] = record { antisymm = λ x y. refl; trans = λ x y z e f. cc; congr = λ x y z e. refl }
keys_total (key ∷ keys) = then_total (directed_total key.direction key.place) (keys_total keys)

pub weak : (keys : List SortKey) → IsStrictWeakOrder (λ a b. is_lt (keys_cmp keys a b))
weak keys = ranks_by (keys_total keys) (λ row. row)
