-- The runs of places at which a row stands in the answers.
use Rattle.std.specs.Prelude.{◌≡◌, ◌⊎◌, ◌+◌, ◌<◌, ◌≤◌, ◌++◌, ℕ, zero, suc, pos, Bool, false, not, List, []}
use Rattle.std.specs.Prelude.{◌∷◌, Result, Ok, Err, codes, drop, length, map, if◌then◌else◌, slice_index}
use Rattle.std.specs.List.{All, AllPairs, Contains, filter, flat_map, list_any}
use Rattle.std.specs.List.{position_or_len, prefix_len, range_with_len, slice_index_or}
use Rattle.retro_base.specs.Gives.{◌>>=◌}
use Rattle.retro_base.specs.declared.refusal.Refusal.{Refusal}
use Rattle.retro_base.specs.declared.refusal.Refusal.TheVariants.{NameTaken}
use Rattle.values.specs.declared.value.Kind.TheVariants as kind
use Rattle.values.specs.declared.value.Value.{Value}
use Rattle.values.specs.declared.value.Value.TheVariants.{Int}
use Rattle.sql_check.specs.Names.{has_twins}
use Rattle.sql_tree.specs.declared.statement.Column.{Column}
use Rattle.sql_select.specs.Groups.{firsts}
use Rattle.sql_select.specs.Same.{same_row}
use Rattle.sql_select.specs.declared.answer.Answer.{Answer}
use Rattle.rql.specs.Columns.{name_of}
use Rattle.rql.specs.Gathering.{Take, gathered}
use Rattle.rql_intervals.specs.declared.runs_so_far.Run.{Run}

-- the columns of the snapshots at which a run starts and ends
abbrev pub end_columns : List Column
end_columns =
    record { name = codes "start_snapshot"; kind = kind.Int } ∷ record { name = codes "end_snapshot"; kind = kind.Int }
    ∷ []

-- rows as a set: each once, in order of first appearance
abbrev pub set_of : List (List Value) → List (List Value)
set_of = firsts same_row

-- an answer as a set, whose columns with those of the two snapshots have names of their own
abbrev pub answer_set : Take (List (List Value))
answer_set snapshot columns rows =
    if has_twins name_of (columns ++ end_columns) then Err NameTaken else Ok (set_of rows)

-- whether the row stands among the rows
abbrev pub has_row : List Value → List (List Value) → Bool
has_row row rows = list_any (same_row row) rows

-- whether the row stands in the answer before a place; no answer is before the first
abbrev pub stands_before : List (List (List Value)) → ℕ → List Value → Bool
stands_before answers zero row = false
stands_before answers (suc place) row = has_row row (slice_index_or answers place [])

-- the last place of a row's run from a place on: behind it are as many answers as have the row without a gap
abbrev pub run_end : List (List (List Value)) → ℕ → List Value → ℕ
run_end answers start row = start + prefix_len (has_row row) (drop (start + 1) answers)

-- the runs that start at a place: those of its rows that do not stand in the answer before
abbrev pub runs_at : List (List (List Value)) → ℕ → List Run
runs_at answers start =
    map (λ row. record { row = row; start = start; end = run_end answers start row })
    (filter (λ row. not (stands_before answers start row)) (slice_index_or answers start []))

-- the runs of the rows of answers that are sets, by the places where they start
abbrev pub runs : List (List (List Value)) → List Run
runs answers = flat_map (runs_at answers) (range_with_len 0 (length answers))

-- a run as a row: its row's values, and the snapshots at its first and its last place
abbrev pub row_of_run : List ℕ → Run → List Value
row_of_run snapshots run =
    run.row ++ Int (pos (slice_index snapshots run.start)) ∷ Int (pos (slice_index snapshots run.end)) ∷ []

-- the columns of the query, and then those of the two snapshots; over no snapshots there are none
abbrev pub interval_columns : List ℕ → List Column → List Column
interval_columns [] columns = []
interval_columns (snapshot ∷ snapshots) columns = columns ++ end_columns

-- the runs of the rows of a query's answers at the snapshots, as rows
abbrev pub intervals : (ℕ → Result Answer Refusal) → List ℕ → Result Answer Refusal
intervals answers snapshots = do
  found ← gathered answer_set answers snapshots
  Ok (record { columns = interval_columns snapshots found.0; rows = map (row_of_run snapshots) (runs found.1) })

-- a row stands in the answer at a place
abbrev pub StandsAt : List (List (List Value)) → ℕ → List Value → Type 0
StandsAt answers place row = Contains (slice_index_or answers place []) row

-- the row stands in each answer from the first place to the last, and in neither the one before nor the one behind
pub record IsInterval (answers : List (List (List Value))) (run : Run) : Type 0 where
  pub forward : run.start ≤ run.end
  pub within : run.end < length answers
  pub throughout : (place : ℕ) → run.start ≤ place → place ≤ run.end → StandsAt answers place run.row
  pub not_before : (place : ℕ) → place + 1 ≡ run.start → ¬ (StandsAt answers place run.row)
  pub not_behind : ¬ (StandsAt answers (run.end + 1) run.row)

-- where a run's row first appears in the answer at its start
abbrev pub appearance : List (List (List Value)) → Run → ℕ
appearance answers run = position_or_len (same_row run.row) (slice_index_or answers run.start [])

-- one run starts before another, or both start at one place and its row appears first there
abbrev pub GoesBefore : List (List (List Value)) → Run → Run → Type 0
GoesBefore answers a b = (a.start < b.start) ⊎ ((a.start ≡ b.start) × (appearance answers a < appearance answers b))

-- the runs are the intervals of the answers: each is one, each interval is among them, none twice, and in their order
pub record AreIntervals (answers : List (List (List Value))) (runs : List Run) : Type 0 where
  pub intervals : All (IsInterval answers) runs
  pub all : (run : Run) → IsInterval answers run → Contains runs run
  pub once : AllPairs (λ a b. ¬ (a ≡ b)) runs
  pub in_order : AllPairs (GoesBefore answers) runs

-- the runs of answers, each taken as a set, are the intervals of their rows
abbrev pub RunsAreIntervals : Type 0
RunsAreIntervals = (answers : List (List (List Value))) → AreIntervals answers (runs (map set_of answers))
