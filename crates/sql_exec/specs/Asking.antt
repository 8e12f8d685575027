-- What a select reads of the pages, whatever they hold, and what it answers.
use Rattle.std.specs.Prelude.{ℕ, List, [], ◌∷◌, map, Option, Some, None, Result, Ok}
use Rattle.retro_base.specs.declared.refusal.Refusal.{Refusal}
use Rattle.sql_tree.specs.declared.select.Select.{Select as SelectRecord}
use Rattle.sql_tree.specs.declared.statement.Statement.{Statement}
use Rattle.sql_tree.specs.declared.statement.Statement.TheVariants.{Select}
use Rattle.sql_check.specs.Check.{checked}
use Rattle.sql_check.specs.Outputs.{answer_columns}
use Rattle.sql_select.specs.Select.{answer}
use Rattle.sql_select.specs.declared.answer.Answer.{Answer}
use Rattle.tables.specs.Meaning.{known}
use Rattle.pager.specs.Allows.{◌>>=◌, only}
use Rattle.pager.specs.Pages.{Pages}
use Rattle.heap_file.specs.declared.chain.Placed.{Placed}
use Rattle.relation.specs.declared.catalog.Catalog.{Catalog}
use Rattle.relation.specs.declared.catalog.StoredTable.{StoredTable}
use Rattle.relation.specs.Catalog.{catalog, schema_of, table_named}
use Rattle.sql_tree.specs.Condition.{ConditionTree}
use Rattle.sql_exec.specs.Reading.{read_at, schema_at}
use Rattle.sql_exec.specs.declared.source.Source.{Source}

-- the catalog is read once, and the statement is checked against it
abbrev pub opened : ℕ → Statement → Option ℕ → Pages → Result Catalog Refusal → Type 0
opened size statement snapshot pages = do
  catalog ← catalog size pages
  checked ← only (checked statement snapshot (schema_of catalog))
  only (Ok catalog)

-- a table's columns, and rows of it without their numbers
abbrev pub source_of : StoredTable → List Placed → Source
source_of table rows = record {
  schema = schema_at table;
  rows = map (λ (placed : Placed). placed.row) rows;
}

-- the columns of a table, if there is one, and the rows of it that are read where WHERE is this
abbrev pub source_at : ℕ → Pages → Option StoredTable → Option ConditionTree → Result Source Refusal → Type 0
source_at size pages found condition = do
  table ← only (known found)
  rows ← read_at size pages table condition
  only (Ok (source_of table rows))

-- WHERE, where it speaks of one table alone
abbrev pub where_beside : Option (List ℕ) → Option ConditionTree → Option ConditionTree
where_beside None condition = condition
where_beside (Some second) condition = None

abbrev pub where_alone : SelectRecord → Option ConditionTree
where_alone select = where_beside select.second select.condition

-- the answer over the rows of one table, and of two
abbrev pub over_one : SelectRecord → Option ℕ → Source → Result Answer Refusal
over_one select snapshot first =
    answer select (first.schema ∷ []) (answer_columns (first.schema ∷ []) select.list) snapshot first.rows None

abbrev pub over_two : SelectRecord → Option ℕ → Source → Source → Result Answer Refusal
over_two select snapshot first second =
    answer select (first.schema ∷ second.schema ∷ [])
    (answer_columns (first.schema ∷ second.schema ∷ []) select.list) snapshot first.rows (Some second.rows)

abbrev pub answered_beside : ℕ → Catalog → SelectRecord → Option ℕ → Pages → Source → Option (List ℕ)
    → Result Answer Refusal → Type 0
answered_beside size catalog select snapshot pages first None = only (over_one select snapshot first)
answered_beside size catalog select snapshot pages first (Some name) = do
  second ← source_at size pages (table_named name catalog.tables) None
  only (over_two select snapshot first second)

-- the answer of a select that was checked, over tables of that catalog
abbrev pub answered : ℕ → Catalog → SelectRecord → Option ℕ → Pages → Result Answer Refusal → Type 0
answered size catalog select snapshot pages = do
  first ← source_at size pages (table_named select.table catalog.tables) (where_alone select)
  answered_beside size catalog select snapshot pages first select.second

-- the answer of a select
abbrev pub asked_of : ℕ → SelectRecord → Option ℕ → Pages → Result Answer Refusal → Type 0
asked_of size select snapshot pages = do
  catalog ← opened size (Select select) snapshot pages
  answered size catalog select snapshot pages
