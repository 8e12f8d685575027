-- The tables of the pages, as the meaning of statements speaks of tables.
use Rattle.std.specs.Prelude.{◌≡◌, ℕ, List, map}
use Rattle.values.specs.declared.value.Value.{Value}
use Rattle.pager.specs.Pages.{Pages}
use Rattle.relation_laws.specs.Laws.{IsStoreOf, without_contents}
use Rattle.relation_laws.specs.Tables.{PlainTable, PlainTables}
use Rattle.tables.specs.declared.contents.Contents.{Contents}
use Rattle.tables.specs.declared.contents.NumberedRow.{NumberedRow}
use Rattle.tables.specs.Tables.{Tables}

-- a row under its number
abbrev pub row_under : ℕ × List Value → NumberedRow
row_under row = record { number = row.0; row = row.1 }

-- what a table holds
abbrev pub contents_of : PlainTable → Contents
contents_of table = record { next = table.next_number; rows = map row_under table.rows }

-- the same tables, in the same order
abbrev pub plain : PlainTables → Tables
plain all = record {
  schema = record { tables = map without_contents all.tables; indexes = all.indexes };
  contents = map contents_of all.tables;
}

-- well-formed pages that hold these tables
pub record IsStored (size : ℕ) (pages : Pages) (tables : Tables) : Type 0 where
  pub all : PlainTables
  pub store : IsStoreOf size pages all
  pub same : tables ≡ plain all
