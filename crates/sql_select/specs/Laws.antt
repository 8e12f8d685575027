-- What follows from the meaning of a select.
use Rattle.std.specs.Prelude.{◌≡◌, ◌≤◌, ◌++◌, ℕ, true, false, List, [], length, Option, None, Ok}
use Rattle.std.specs.List.{AllByRecursion, IsDistinct, list_any}
use Rattle.std.specs.List.Sorted.{IsPermutation, IsSortedBy, IsStableBy}
use Rattle.std.specs.Ordering.{is_lt}
use Rattle.values.specs.Value.{value_cmp}
use Rattle.values.specs.declared.value.Value.{Value}
use Rattle.sql_tree.specs.declared.schema.TableSchema.{TableSchema}
use Rattle.sql_tree.specs.declared.select.SelectList.TheVariants.{All as star}
use Rattle.sql_tree.specs.declared.statement.Column.{Column}
use Rattle.sql_select.specs.Aggregates.{least_of}
use Rattle.sql_select.specs.Groups.{distinct, groups, same_outputs}
use Rattle.sql_select.specs.Order.{keys_cmp, sorted_by}
use Rattle.sql_select.specs.Rows.{joined_rows}
use Rattle.sql_select.specs.Same.{same_value}
use Rattle.sql_select.specs.Select.{answer, limited}
use Rattle.sql_select.specs.declared.grouping.KeyedRow.{KeyedRow}
use Rattle.sql_select.specs.declared.ordering.SortKey.{SortKey}
use Rattle.sql_select.specs.declared.output_row.OutputRow.{OutputRow}

-- what ORDER BY leaves: the same rows, none behind one that goes after it, and those that tie as they stood
pub record IsInOrder (keys : List SortKey) (before after : List OutputRow) : Type 0 where
  pub same_rows : IsPermutation before after
  pub rising : IsSortedBy (λ a b. is_lt (keys_cmp keys a b)) after
  pub stable : IsStableBy (λ a b. is_lt (keys_cmp keys a b)) before after

abbrev pub OrderKeepsRows : Type 0
OrderKeepsRows = (keys : List SortKey) (rows : List OutputRow) → IsInOrder keys rows (sorted_by keys rows)

-- LIMIT gives a front of the rows
abbrev pub LimitGivesAFront : Type 0
LimitGivesAFront = (limit : Option ℕ) (rows : List OutputRow) → (others : List OutputRow)
    × (limited limit rows ++ others ≡ rows)

-- DISTINCT leaves each row's outputs, and no two rows with the same ones
pub record IsDistinctOf (before after : List OutputRow) : Type 0 where
  pub same_rows : (row : OutputRow) → list_any (same_outputs row) after ≡ list_any (same_outputs row) before
  pub apart : IsDistinct same_outputs after

abbrev pub DistinctLeavesOne : Type 0
DistinctLeavesOne = (rows : List OutputRow) → IsDistinctOf rows (distinct rows)

-- no group of GROUP BY is empty
abbrev pub GroupsAreNotEmpty : Type 0
GroupsAreNotEmpty =
    (rows : List KeyedRow) → AllByRecursion (λ (group : List (List Value)). 1 ≤ length group) (groups rows)

-- MIN is one of the values, and none of them is less
pub record IsLeast (values : List Value) (least : Value) : Type 0 where
  pub among : list_any (same_value least) values ≡ true
  pub none_less : AllByRecursion (λ (value : Value). is_lt (value_cmp value least) ≡ false) values

abbrev pub MinIsLeast : Type 0
MinIsLeast = (values : List Value) (least : Value) → least_of values ≡ Ok least → IsLeast values least

-- `SELECT * FROM table [ , second ]` gives the joined rows
abbrev pub StarGivesRows : Type 0
StarGivesRows =
    (table : List ℕ) (second : Option (List ℕ)) (scope : List TableSchema) (columns : List Column) (snapshot : Option ℕ)
    (firsts : List (List Value)) (seconds : Option (List (List Value))) →
    answer (record {
      distinct = false;
      list = star;
      table = table;
      second = second;
      condition = None;
      group_by = [];
      order_by = [];
      limit = None;
    }) scope columns snapshot firsts seconds
    ≡ Ok (record { columns = columns; rows = joined_rows firsts seconds })
