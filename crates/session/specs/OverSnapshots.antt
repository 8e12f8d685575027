-- Queries of the table of snapshots, of result tables, and over many snapshots.
use Rattle.std.specs.Prelude.{◌||◌, ℕ, pos, Bool, false, not, List, [], ◌∷◌, codes, flat_map}
use Rattle.std.specs.Prelude.{map, Option, Some, None, Result, Ok, Err, if◌then◌else◌}
use Rattle.retro_base.specs.Gives.{◌>>=◌}
use Rattle.retro_base.specs.declared.refusal.Refusal.{Refusal}
use Rattle.retro_base.specs.declared.refusal.Refusal.TheVariants.{UnknownName}
use Rattle.values.specs.declared.value.Kind.TheVariants as kind
use Rattle.values.specs.declared.value.Value.{Value}
use Rattle.values.specs.declared.value.Value.TheVariants.{Int, Text}
use Rattle.sql_tree.specs.declared.schema.TableSchema.{TableSchema}
use Rattle.sql_tree.specs.declared.select.Select.{Select}
use Rattle.sql_check.specs.Check.{checked_beside}
use Rattle.values.specs.Name.{same_name}
use Rattle.sql_check.specs.Outputs.{answer_columns}
use Rattle.sql_select.specs.Select.{answer as answer_over}
use Rattle.sql_select.specs.declared.answer.Answer.{Answer}
use Rattle.tables.specs.Meaning.{asked}
use Rattle.tables.specs.Tables.{Tables}
use Rattle.rql.specs.Collate.{collate}
use Rattle.rql.specs.Table.{in_table}
use Rattle.rql.specs.Variable.{in_variable}
use Rattle.rql_arguments.specs.declared.call.Call.{Call}
use Rattle.rql_arguments.specs.declared.call.Combination.{Combination}
use Rattle.rql_arguments.specs.declared.call.Combination.TheVariants as combination
use Rattle.rql_intervals.specs.Intervals.{intervals}
use Rattle.journal_law.specs.World.{Mark, World, as_of}
use Rattle.session.specs.declared.result_table.ResultTable.{ResultTable}

-- ---- a table beside those of the store

-- The answer of a select over this one table. Names and types are checked in the order of every select: an unknown
-- name, one table twice, a wrong type.
abbrev pub asked_of : Select → TableSchema → List (List Value) → Result Answer Refusal
asked_of query table rows = do
  _ ← checked_beside query table
  answer_over query (table ∷ []) (answer_columns (table ∷ []) query.list) None rows None

-- ---- the table of snapshots

abbrev pub snapshots_table : TableSchema
snapshots_table =
    record {
      name = codes "SnapIds";
      columns =
          record { name = codes "snap_id"; kind = kind.Int } ∷ record { name = codes "label"; kind = kind.Text } ∷ [];
    }

abbrev pub snapshot_row : {X : Type 0} → Mark X → List Value
snapshot_row mark = Int (pos mark.number) ∷ Text mark.label ∷ []

-- the answer of a query of the table of snapshots, which has the retained ones in rising number
abbrev pub snapshots_asked : {X : Type 0} → Select → World X → Result Answer Refusal
snapshots_asked query world = asked_of query snapshots_table (map snapshot_row world.marks)

-- ---- calls

-- the numbers that a row of a list of snapshots holds
abbrev pub numbers_of : List Value → List ℕ
numbers_of (Int (pos number) ∷ []) = number ∷ []
numbers_of row = []

-- the snapshots of a call, in the order of its first query's answer
abbrev pub snapshots_of : {X : Type 0} → Call → World X → Result (List ℕ) Refusal
snapshots_of call world = do
  listed ← snapshots_asked call.snapshots world
  Ok (flat_map numbers_of listed.rows)

-- the answers at these snapshots, combined
abbrev pub combined : Combination → (ℕ → Result Answer Refusal) → List ℕ → Result Answer Refusal
combined combination.Collate = collate
combined (combination.InVariable function) = in_variable function
combined (combination.InTable pairs) = in_table pairs
combined combination.Intervals = intervals

-- what a query answers at a snapshot, whose number it can ask for
abbrev pub answer_at : Select → World Tables → ℕ → Result Answer Refusal
answer_at query world snapshot = as_of snapshot world >>= asked query (Some snapshot)

-- the result of a call in a world; the first refusal, in the order of its list, refuses it
abbrev pub called : Call → World Tables → Result Answer Refusal
called call world = do
  snapshots ← snapshots_of call world
  combined call.combination (answer_at call.query world) snapshots

-- ---- result tables

-- the answer of a query of the last result table of its name among these, of which the last is the first
abbrev pub results_asked : Select → List ResultTable → Result Answer Refusal
results_asked query [] = Err UnknownName
results_asked query (result ∷ results) =
    if same_name query.table result.name
    then asked_of query (record { name = result.name; columns = result.answer.columns }) result.answer.rows
    else results_asked query results
