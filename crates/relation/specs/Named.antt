-- What is found by name: the rows of a table's columns, its indexes, and tables.
use Rattle.std.specs.Prelude.{ℕ, List, [], Option, unwrap_or, ◌≡◌}
use Rattle.std.specs.BTreeMap.{BTreeMap, get}
use Rattle.std.specs.Cmp.Lexicographic.{slice_cmp}
use Rattle.std.specs.Ordering.{nat_cmp}
use Rattle.relation.specs.declared.catalog.StoredTable.{StoredTable}
use Rattle.relation.specs.Catalog.{table_place}

-- what is kept for the table of that name, in order
abbrev pub rows_under : {A : Type 0} → BTreeMap (List ℕ) (List A) → List ℕ → List A
rows_under kept table = unwrap_or (get (slice_cmp nat_cmp) kept table) []

-- the place that is kept for that name
abbrev pub place_under : BTreeMap (List ℕ) ℕ → List ℕ → Option ℕ
place_under places name = get (slice_cmp nat_cmp) places name

-- for each name the place of the first table of that name is kept
abbrev pub ArePlaces : List StoredTable → BTreeMap (List ℕ) ℕ → Type 0
ArePlaces tables places = (name : List ℕ) → place_under places name ≡ table_place name tables
