-- The runs over the answers so far, of which those that end at the last answer may go on.
use Rattle.std.specs.Prelude.{◌≡◌, ◌+◌, ◌<◌, ◌++◌, ◌&&◌, ℕ, zero, suc, Bool, true, false, not, eqb, List}
use Rattle.std.specs.Prelude.{[], ◌∷◌, Option, Some, None, length, map, if◌then◌else◌, slice_get}
use Rattle.std.specs.List.{filter, list_any, slice_index_or}
use Rattle.values.specs.declared.value.Value.{Value}
use Rattle.rql_intervals.specs.Intervals.{has_row, runs}
use Rattle.rql_intervals.specs.declared.runs_so_far.Run.{Run}
use Rattle.rql_intervals.specs.declared.runs_so_far.RunsSoFar.{RunsSoFar}

-- the answer before a place; before the first there are no rows
abbrev pub rows_before : List (List (List Value)) → ℕ → List (List Value)
rows_before answers zero = []
rows_before answers (suc place) = slice_index_or answers place []

-- whether a place is among some
abbrev pub has_place : ℕ → List ℕ → Bool
has_place place places = list_any (eqb place) places

-- a run goes on to a place if its row stands in the answer there
abbrev pub to_place : ℕ → List (List Value) → Run → Run
to_place place rows run = if has_row run.row rows then record { row = run.row; start = run.start; end = place } else run

-- over so many answers a run is ongoing where it ends at the last of them, else it ends before
abbrev pub Fits : ℕ → Option Run → Bool → Type 0
Fits many None is_ongoing = is_ongoing ≡ false
Fits many (Some run) true = (run.start < many) × (run.end + 1 ≡ many)
Fits many (Some run) false = (run.start < many) × (run.end + 1 < many)

abbrev pub AllFit : ℕ → List ℕ → List Run → Type 0
AllFit many ongoing runs = (at : ℕ) → Fits many (slice_get runs at) (has_place at ongoing)

-- a run that was ongoing goes on if it can, and then stays ongoing; another stays as it was
abbrev pub GoesOn : ℕ → List (List Value) → Option Run → Option Run → Bool → Bool → Type 0
GoesOn place rows None after was is = (is ≡ false) × (after ≡ None)
GoesOn place rows (Some run) after was is =
    (is ≡ (was && has_row run.row rows)) × (after ≡ Some (if was then to_place place rows run else run))

abbrev pub AllGoOn : ℕ → List (List Value) → List ℕ → List ℕ → List Run → List Run → Type 0
AllGoOn place rows ongoing still before after =
    (at : ℕ) → GoesOn place rows (slice_get before at) (slice_get after at) (has_place at ongoing) (has_place at still)

-- the runs that begin at a place: those of its rows that do not stand in the answer before
abbrev pub begun : ℕ → List (List Value) → List (List Value) → List Run
begun place last rows =
    map (λ row. record { row = row; start = place; end = place }) (filter (λ row. not (has_row row last)) rows)

-- the runs that begin at a place are behind the others, and are ongoing
abbrev pub Begins : ℕ → List (List Value) → RunsSoFar → RunsSoFar → Type 0
Begins place rows old new = (new.runs.items ≡ old.runs.items ++ begun place old.last rows)
    × (AllFit (place + 1) old.ongoing.items old.runs.items → AllFit (place + 1) new.ongoing.items new.runs.items)

-- the runs are those over the answers
abbrev pub AreRuns : RunsSoFar → List (List (List Value)) → Type 0
AreRuns so_far answers = (so_far.last ≡ rows_before answers (length answers)) × (so_far.runs.items ≡ runs answers)
    × AllFit (length answers) so_far.ongoing.items so_far.runs.items

-- an answer more, whatever answers the runs are over
abbrev pub AddsRows : ℕ → List (List Value) → RunsSoFar → RunsSoFar → Type 0
AddsRows place rows old new = (answers : List (List (List Value))) → length answers ≡ place → AreRuns old answers
    → AreRuns new (answers ++ rows ∷ [])
