-- Rows in the order of keys.
use Rattle.std.specs.Prelude.{ℕ, Bool, List, [], ◌∷◌, Option, slice_get, if◌then◌else◌}
use Rattle.std.specs.List.{prefix_len}
use Rattle.std.specs.Option.{option_cmp}
use Rattle.std.specs.Ordering.{is_lt, ordering_then}
use Rattle.std.specs.declared.cmp.Ordering.{Ordering}
use Rattle.std.specs.declared.cmp.Ordering.TheVariants.{Equal}
use Rattle.values.specs.Value.{value_cmp}
use Rattle.values.specs.declared.value.Value.{Value}
use Rattle.sql_tree.specs.declared.select.Direction.{Direction}
use Rattle.sql_tree.specs.declared.select.Direction.TheVariants.{Ascending, Descending}
use Rattle.sql_select.specs.declared.ordering.KeyPlace.{KeyPlace}
use Rattle.sql_select.specs.declared.ordering.KeyPlace.TheVariants.{Output, Column}
use Rattle.sql_select.specs.declared.ordering.SortKey.{SortKey}
use Rattle.sql_select.specs.declared.output_row.OutputRow.{OutputRow}

-- x goes before the first item that is not before it
abbrev pub placed : {X : Type 0} → (X → X → Bool) → X → List X → List X
placed before x [] = x ∷ []
placed before x (y ∷ ys) = if before y x then (y ∷ placed before x ys) else (x ∷ y ∷ ys)

-- the list in order, by insertion; ties stay as they were
abbrev pub ordered : {X : Type 0} → (X → X → Bool) → List X → List X
ordered before [] = []
ordered before (x ∷ xs) = placed before x (ordered before xs)

-- the value by which a key orders a row
abbrev pub value_at : KeyPlace → OutputRow → Option Value
value_at (Output place) row = slice_get row.outputs place
value_at (Column place) row = slice_get row.origin place

abbrev pub directed : {X : Type 0} → Direction → (X → X → Ordering) → X → X → Ordering
directed Ascending cmp a b = cmp a b
directed Descending cmp a b = cmp b a

abbrev pub place_cmp : KeyPlace → OutputRow → OutputRow → Ordering
place_cmp place a b = option_cmp value_cmp (value_at place a) (value_at place b)

abbrev pub key_cmp : SortKey → OutputRow → OutputRow → Ordering
key_cmp key = directed key.direction (place_cmp key.place)

-- by the first key, where they tie by the next
abbrev pub keys_cmp : List SortKey → OutputRow → OutputRow → Ordering
keys_cmp [] a b = Equal
keys_cmp (key ∷ keys) a b = ordering_then (key_cmp key a b) (keys_cmp keys a b)

-- how many items at the front are before x
abbrev pub first_place : {X : Type 0} → (X → X → Bool) → X → List X → ℕ
first_place before x list = prefix_len (λ y. before y x) list

-- whether a row is before another by the keys
abbrev pub comes_before : List SortKey → OutputRow → OutputRow → Bool
comes_before keys a b = is_lt (keys_cmp keys a b)

-- ORDER BY
abbrev pub sorted_by : List SortKey → List OutputRow → List OutputRow
sorted_by keys rows = ordered (comes_before keys) rows
