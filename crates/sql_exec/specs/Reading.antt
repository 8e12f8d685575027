-- The rows of a table that a statement reads: those in a range of an index, or all.
use Rattle.std.specs.Prelude.{ℕ, List, Option, Some, None, Result}
use Rattle.retro_base.specs.declared.refusal.Refusal.{Refusal}
use Rattle.sql_tree.specs.Condition.{ConditionTree}
use Rattle.sql_tree.specs.declared.schema.TableSchema.{TableSchema}
use Rattle.pager.specs.Pages.{Pages}
use Rattle.tree_index.specs.Work.{ranged}
use Rattle.heap_file.specs.declared.chain.Placed.{Placed}
use Rattle.relation.specs.declared.catalog.StoredTable.{StoredTable}
use Rattle.relation.specs.Work.{ranged_at, rows_at}
use Rattle.sql_exec.specs.declared.ranges.Range.{Range}
use Rattle.sql_exec.specs.Ranges.{plan_of}

-- the name and the columns of a table
abbrev pub schema_at : StoredTable → TableSchema
schema_at table = record { name = table.name; columns = table.columns }

-- the rows in a range of an index, or all
abbrev pub read_by : ℕ → Pages → StoredTable → Option Range → Result (List Placed) Refusal → Type 0
read_by size pages table None = rows_at size pages table
read_by size pages table (Some range) = ranged_at ranged size pages table range.index range.low range.high

-- the rows that a statement reads whose WHERE is this
abbrev pub read_at : ℕ → Pages → StoredTable → Option ConditionTree → Result (List Placed) Refusal → Type 0
read_at size pages table condition = read_by size pages table (plan_of (schema_at table) table.indexes condition)
