-- The columns that a column name may stand for: those of one table, or of two side by side.
use Rattle.std.specs.Prelude.{◌+◌, ◌++◌, ◌<◌, ◌==◌, ◌^◌, ℕ, Bool, true, Option, Some}
use Rattle.std.specs.Prelude.{None, List, [], ◌∷◌, length, slice_get, if◌then◌else◌}
use Rattle.std.specs.Cmp.Lexicographic.{pointwise}
use Rattle.std.specs.List.{list_any, position}
use Rattle.std.specs.Option.{option_map, option_to_list}
use Rattle.values.specs.Name.{same_name}
use Rattle.values.specs.declared.value.Kind.{Kind}
use Rattle.sql_tree.specs.declared.name.ColumnName.{ColumnName}
use Rattle.sql_tree.specs.declared.schema.TableSchema.{TableSchema}
use Rattle.sql_tree.specs.declared.statement.Column.{Column}

-- the place of the first column of that name
abbrev pub column_place : List ℕ → List Column → Option ℕ
column_place name columns = position (λ (c : Column). pointwise ◌==◌ c.name name) columns

-- whether the name can be a column's of the table: where it names a table, it is this one
abbrev pub may_be_of : Option (List ℕ) → TableSchema → Bool
may_be_of None source = true
may_be_of (Some table) source = pointwise ◌==◌ source.name table

abbrev pub place_within : TableSchema → ColumnName → Option ℕ
place_within source name = if may_be_of name.table source then column_place name.column source.columns else None

-- the places of the columns so named among the columns of all tables, of which the first has the place `at`
abbrev pub places : ℕ → List TableSchema → ColumnName → List ℕ
places at [] name = []
places at (source ∷ sources) name =
    option_to_list (option_map (λ place. at + place) (place_within source name)) ++ places
    (at + length source.columns) sources name

-- a plain name is that of one column alone; behind a table's name it is that of the first
abbrev pub chosen : Option (List ℕ) → List ℕ → Option ℕ
chosen table [] = None
chosen table (place ∷ []) = Some place
chosen None (place ∷ other ∷ others) = None
chosen (Some table) (place ∷ other ∷ others) = Some place

-- the place of the column so named among the columns of all tables
abbrev pub place_of : List TableSchema → ColumnName → Option ℕ
place_of scope name = chosen name.table (places 0 scope name)

-- the columns of all tables
abbrev pub columns_of : List TableSchema → List Column
columns_of [] = []
columns_of (source ∷ sources) = source.columns ++ columns_of sources

-- whether a column has the name
abbrev pub has_column : List Column → List ℕ → Bool
has_column columns name = list_any (λ (column : Column). same_name column.name name) columns

abbrev pub kind_in : List Column → Option ℕ → Option Kind
kind_in columns None = None
kind_in columns (Some place) = option_map (λ (c : Column). c.kind) (slice_get columns place)

-- a second table's columns behind so many have places within 64 bits
abbrev pub IsNarrow : ℕ → Option TableSchema → Type 0
IsNarrow width None = Unit {0}
IsNarrow width (Some table) = width + length table.columns < 2 ^ 64

-- the kind of the column so named
abbrev pub kind_at : List TableSchema → ColumnName → Option Kind
kind_at scope name = kind_in (columns_of scope) (place_of scope name)
