-- Tables: their schema, and what each of them holds, in the order of the schema.
use Rattle.std.specs.Prelude.{◌≡◌, ◌<◌, ◌≤◌, ◌+◌, ◌++◌, ◌==◌, ℕ, IsTrue, List, [], ◌∷◌, length}
use Rattle.std.specs.Prelude.{Option, Some, None, position, slice_get, slice_index_or, slice_set}
use Rattle.std.specs.Cmp.Lexicographic.{pointwise}
use Rattle.std.specs.List.{AllByRecursion, AllZip}
use Rattle.std.specs.Option.{option_and_then}
use Rattle.retro_base.specs.declared.limits.TheConstants.{COLUMNS, ROW_BYTES}
use Rattle.values.specs.declared.value.Value.{Value}
use Rattle.sql_tree.specs.declared.schema.IndexSchema.{IndexSchema}
use Rattle.sql_tree.specs.declared.schema.Schema.{Schema}
use Rattle.sql_tree.specs.declared.schema.TableSchema.{TableSchema}
use Rattle.sql_tree.specs.declared.statement.Column.{Column}
use Rattle.sql_tree.specs.Rows.{AllFit}
use Rattle.tables.specs.declared.contents.Contents.{Contents}
use Rattle.tables.specs.declared.contents.NumberedRow.{NumberedRow}
use Rattle.tables.specs.Rows.{rows_of}
use Rattle.values.specs.Row.{row_bytes}

pub record Tables : Type 0 where
  pub schema : Schema
  pub contents : List Contents

-- no tables, and no index
abbrev pub no_tables : Tables
no_tables = record { schema = record { tables = []; indexes = [] }; contents = [] }

-- a table: its place in the schema, its name and columns, and what it holds
pub record Found : Type 0 where
  pub place : ℕ
  pub schema : TableSchema
  pub contents : Contents

abbrev pub found_with : ℕ → Option TableSchema → Option Contents → Option Found
found_with place (Some schema) (Some contents) = Some (record { place = place; schema = schema; contents = contents })
found_with place _ _ = None

-- the place of the table of that name
abbrev pub place_named : List ℕ → Tables → Option ℕ
place_named name tables = position (λ (table : TableSchema). pointwise ◌==◌ table.name name) tables.schema.tables

-- the table of that name
abbrev pub table_named : List ℕ → Tables → Option Found
table_named name tables =
    option_and_then (λ place. found_with place (slice_get tables.schema.tables place) (slice_get tables.contents place))
    (place_named name tables)

-- the tables with a new one, without rows
abbrev pub with_table : TableSchema → Tables → Tables
with_table table tables = record {
  schema = record tables.schema { tables = tables.schema.tables ++ table ∷ [] };
  contents = tables.contents ++ record { next = 0; rows = [] } ∷ [];
}

-- the tables with a new index
abbrev pub with_index : IndexSchema → Tables → Tables
with_index index tables =
    record tables { schema = record tables.schema { indexes = tables.schema.indexes ++ index ∷ [] } }

-- the tables, of which the one at that place now holds this
abbrev pub with_contents : ℕ → Contents → Tables → Tables
with_contents place contents tables = record tables { contents = slice_set tables.contents place contents }

-- the row numbers rise from the low one on, and stay below the high one
abbrev pub NumbersRise : ℕ → List NumberedRow → ℕ → Type 0
NumbersRise low [] high = low ≤ high
NumbersRise low (row ∷ rows) high = (low ≤ row.number) × NumbersRise (row.number + 1) rows high

-- each encoded row takes at most 900 bytes
abbrev pub AllShort : List (List Value) → Type 0
AllShort rows = AllByRecursion (λ (row : List Value). row_bytes row ≤ ROW_BYTES) rows

-- what holds of every table: at most 16 columns, row numbers that rise below the next one, rows that fit the columns
-- and are not too long
pub record IsTable (table : TableSchema) (contents : Contents) : Type 0 where
  pub few_columns : length table.columns ≤ COLUMNS
  pub rising : NumbersRise 0 contents.rows contents.next
  pub fitting : AllFit table.columns (rows_of contents.rows)
  pub short : AllShort (rows_of contents.rows)

-- what holds of all tables: each has its contents
abbrev pub IsTables : Tables → Type 0
IsTables tables = AllZip IsTable tables.schema.tables tables.contents

-- the table of that name stands at that place
pub record IsPlace (name : List ℕ) (tables : Tables) (place : ℕ) : Type 0 where
  pub in_schema : place < length tables.schema.tables
  pub in_contents : place < length tables.contents
  pub found : (s : TableSchema) (c : Contents) →
      table_named name tables
      ≡ Some (record {
        place = place;
        schema = slice_index_or tables.schema.tables place s;
        contents = slice_index_or tables.contents place c;
      })
