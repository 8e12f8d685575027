-- What a statement reads of stored rows, and what it makes of them, by what keeps rows and what sets their values. No
-- promise cites it.
use Rattle.std.specs.Prelude.{◌≡◌, ℕ, Bool, true, List, [], ◌∷◌, Option, Result, Ok, Err}
use Rattle.std.specs.List.{filter}
use Rattle.retro_base.specs.declared.refusal.Refusal.{Refusal}
use Rattle.values.specs.declared.value.Value.{Value}
use Rattle.sql_tree.specs.Condition.{ConditionTree}
use Rattle.sql_select.specs.Rows.{holds_at}
use Rattle.tables.specs.declared.contents.NumberedRow.{NumberedRow}
use Rattle.tables.specs.Bound.{remaining_by, updated_by}
use Rattle.tables.specs.Meaning.{known}
use Rattle.pager.specs.Allows.{◌>>=◌, only}
use Rattle.pager.specs.Pages.{Pages}
use Rattle.heap_file.specs.declared.chain.Placed.{Placed}
use Rattle.relation.specs.declared.catalog.StoredTable.{StoredTable}
use Rattle.relation.specs.declared.drafting.RowChange.{RowChange}
use Rattle.sql_exec.specs.declared.source.Source.{Source}
use Rattle.sql_exec.specs.Asking.{source_of}
use Rattle.sql_exec.specs.Planning.{counted}
use Rattle.sql_exec.specs.Reading.{read_at, schema_at}
use Rattle.sql_exec.specs.Running.{numbered_at, changes_on}

-- a row that an update counts, as it stands, and what it becomes
abbrev pub placed_changes_by : (List Value → Result Bool Refusal) → (List Value → Result (List Value) Refusal)
    → Placed → Result (List RowChange) Refusal
placed_changes_by keeps sets placed = counted (changes_on placed) (updated_by keeps sets (numbered_at placed))

-- a row that a delete counts
abbrev pub placed_gone_by : (List Value → Result Bool Refusal) → Placed → Result (List Placed) Refusal
placed_gone_by keeps placed =
    counted (λ (after : List NumberedRow). placed ∷ []) (remaining_by keeps (numbered_at placed))

-- whether a row stays at which a condition answers so: all do but those at which it is false
abbrev pub stays : Result Bool Refusal → Bool
stays (Ok holds) = holds
stays (Err why) = true

abbrev pub stays_by : (List Value → Result Bool Refusal) → Placed → Bool
stays_by holds placed = stays (holds placed.row)

-- the same as a test of rows, which is never refused
abbrev pub passes_by : (List Value → Result Bool Refusal) → Placed → Result Bool Refusal
passes_by holds placed = Ok (stays_by holds placed)

-- what is left of the rows that are read where a test leaves some out
abbrev pub left_of : (Placed → Bool) → (Result (List Placed) Refusal → Type 0) → Result (List Placed) Refusal → Type 0
left_of test reads (Ok left) = (rows : List Placed) × reads (Ok rows) × (left ≡ filter test rows)
left_of test reads (Err why) = reads (Err why)

-- the rows that a statement reads whose WHERE is this, but those at which it is false
abbrev pub left_at : ℕ → Option ℕ → Pages → StoredTable → Option ConditionTree → Result (List Placed) Refusal → Type 0
left_at size snapshot pages table condition =
    left_of (stays_by (holds_at (schema_at table ∷ []) snapshot condition)) (read_at size pages table condition)

-- the columns of a table, if there is one, and those rows of it
abbrev pub source_left : ℕ → Option ℕ → Pages → Option StoredTable → Option ConditionTree → Result Source Refusal
    → Type 0
source_left size snapshot pages found condition = do
  table ← only (known found)
  rows ← left_at size snapshot pages table condition
  only (Ok (source_of table rows))
