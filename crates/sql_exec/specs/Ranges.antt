-- Which rows a statement reads of a table: those in a range of an index, or all.
use Rattle.std.specs.Prelude.{◌-◌, ◌^◌, ◌∷◌, ◌&&◌, pos, negsuc, Bool, not, Option, Some}
use Rattle.std.specs.Prelude.{None, List, [], replicate, slice_get, if◌then◌else◌}
use Rattle.std.specs.List.{filter_map, find}
use Rattle.std.specs.Option.{option_or}
use Rattle.values.specs.declared.value.Kind.{Kind}
use Rattle.values.specs.declared.value.Kind.TheVariants as kind
use Rattle.values.specs.declared.text.TheConstants.{TEXT_BYTES}
use Rattle.values.specs.declared.value.Value.{Value}
use Rattle.values.specs.declared.value.Value.TheVariants.{Int, Text}
use Rattle.sql_tree.specs.Condition.{ConditionTree}
use Rattle.sql_tree.specs.declared.schema.TableSchema.{TableSchema}
use Rattle.sql_tree.specs.declared.statement.Column.{Column}
use Rattle.relation.specs.declared.catalog.StoredIndex.{StoredIndex}
use Rattle.sql_exec.specs.Bounds.{bounds_of, is_below}
use Rattle.sql_exec.specs.declared.ranges.Range.{Range}

-- the least and the greatest value of a kind
abbrev pub least : Kind → Value
least kind.Int = Int (negsuc (2 ^ 63 - 1))
least kind.Text = Text []

abbrev pub greatest : Kind → Value
greatest kind.Int = Int (pos (2 ^ 63 - 1))
greatest kind.Text = Text (replicate TEXT_BYTES 126)

-- the range of an index within bounds, of which one at least is there
abbrev pub range_within : StoredIndex → Kind → Option Value → Option Value → Option Range
range_within index kind None None = None
range_within index kind None (Some high) = Some (record { index = index; low = least kind; high = high })
range_within index kind (Some low) None = Some (record { index = index; low = low; high = greatest kind })
range_within index kind (Some low) (Some high) = Some (record { index = index; low = low; high = high })

abbrev pub range_at : TableSchema → ConditionTree → StoredIndex → Option Column → Option Range
range_at table condition index None = None
range_at table condition index (Some column) =
    let bounds = bounds_of (table ∷ []) (record { place = index.place; kind = column.kind }) condition in
    range_within index column.kind bounds.low bounds.high

-- the range that a condition leaves of an index, if it sets bounds to the index's column
abbrev pub range_over : TableSchema → ConditionTree → StoredIndex → Option Range
range_over table condition index = range_at table condition index (slice_get table.columns index.place)

-- whether at most one value lies in a range
abbrev pub holds_one : Range → Bool
holds_one range = not (is_below range.low range.high)

-- the first range of at most one value; where there is none, the first
abbrev pub best_of : List Range → Option Range
best_of ranges = option_or (find holds_one ranges) (slice_get ranges 0)

-- what is read: the best of the ranges that a condition leaves of indexes, in order, or all rows
abbrev pub plan_of : TableSchema → List StoredIndex → Option ConditionTree → Option Range
plan_of table indexes None = None
plan_of table indexes (Some condition) = best_of (filter_map (range_over table condition) indexes)

-- of two ranges, if they are there, the first, but one of at most one value goes before one of many
abbrev pub better : Option Range → Option Range → Option Range
better None b = b
better (Some a) None = Some a
better (Some a) (Some b) = Some (if holds_one b && not (holds_one a) then b else a)
