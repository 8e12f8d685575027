-- What stands while a session runs its items of a phase, one after the other.
use Rattle.std.specs.Prelude.{◌≡◌, ◌⊎◌, ◌<◌, ◌+◌, ◌++◌, ◌||◌, ℕ, Bool, true, false, List}
use Rattle.std.specs.Prelude.{[], ◌∷◌, length, option_to_list, Some, Result, Ok, Err}
use Rattle.std.specs.List.{AllByRecursion}
use Rattle.retro_base.specs.declared.who.Who.{Who}
use Rattle.tables.specs.Tables.{Tables}
use Rattle.history.specs.declared.journal.Line.{Line}
use Rattle.journal_law.specs.Lawful.{IsCut}
use Rattle.journal_law.specs.Own.{own}
use Rattle.journal_law.specs.Seats.{View}
use Rattle.journal_law.specs.Shows.{ShowsAlong}
use Rattle.journal_law.specs.World.{World}
use Rattle.session.specs.Held.{GiveAlike, held}
use Rattle.session.specs.Plan.{Item, Plan, item_of}
use Rattle.session.specs.Replies.{Known, Standing, is_wanting, kept_by, known_by, standing_behind, starting, who_is}
use Rattle.session.specs.Run.{SessionLeft}
use Rattle.session.specs.Sql.{kind_of, sql}
use Rattle.session.specs.declared.item.Done.{Done}
use Rattle.session.specs.declared.item.Done.TheVariants as done
use Rattle.session.specs.declared.kept.Kept.{Kept}
use Rattle.session.specs.declared.kept.Kept.TheVariants as kept
use Rattle.session.specs.declared.passing.Progress.{Progress}
use Rattle.session.specs.declared.plan.Task.{Task}
use Rattle.session.specs.declared.result_table.ResultTable.{ResultTable}

-- ---- what is kept

abbrev pub with_kept : Kept → Progress → Progress
with_kept one progress = record progress { kept = progress.kept ++ one ∷ [] }

-- before the first item
pub record IsNew (progress : Progress) : Type 0 where
  pub stopped : progress.stopped ≡ false
  pub kept : progress.kept ≡ []
  pub results : held progress.results ≡ []

-- what is kept of an item that was run
abbrev pub kept_as : Done → Kept
kept_as (done.Told text table) = kept.Told text
kept_as done.CutShort = kept.CutShort

-- it was cut short
abbrev pub cuts : Done → Bool
cuts (done.Told text table) = false
cuts done.CutShort = true

-- the result table that it left, if any
abbrev pub tables_of : Done → List ResultTable
tables_of (done.Told text table) = option_to_list table
tables_of done.CutShort = []

-- behind an item that was run: its result table stands before those of before
pub record IsBehind (one : Done) (before after : Progress) : Type 0 where
  pub stopped : after.stopped ≡ (before.stopped || cuts one)
  pub kept : after.kept ≡ before.kept ++ kept_as one ∷ []
  pub results : GiveAlike (held after.results) (tables_of one ++ held before.results)

-- the replies of a session's items, the first having this number, say for which memory was wanting
abbrev pub Says : (Who → Bool) → ℕ → ℕ → ℕ → List Kept → Type 0
Says wanting phase session number [] = Unit {0}
Says wanting phase session number (one ∷ more) = (wanting (who_is phase session number) ≡ is_wanting one)
    × Says wanting phase session (number + 1) more

-- what stands behind tasks, the first having this number
abbrev pub standing_after : (ℕ → Known) → Standing → ℕ → List Task → Standing
standing_after known standing number [] = standing
standing_after known standing number (task ∷ tasks) =
    standing_after known (standing_behind (known number) standing task) (number + 1) tasks

-- that is what is kept of the tasks that are done, and what stands behind them
pub record KeptOf (size : ℕ) (names : List (List ℕ)) (tasks : List Task) (known : ℕ → Known)
    (progress : Progress) : Type 0 where
  pub kept : progress.kept ≡ kept_by size known names starting 1 tasks
  pub stopped : (standing_after known starting 1 tasks).stopped ≡ progress.stopped
  pub results : progress.stopped ≡ false →
      GiveAlike (standing_after known starting 1 tasks).results (held progress.results)

-- ---- the lines

-- a line of the session is of an earlier phase, or of an item before this number
abbrev pub IsEarlier : ℕ → ℕ → ℕ → Line → Type 0
IsEarlier phase session number line = line.who.session ≡ session → (line.who.phase < phase)
    ⊎ ((line.who.phase ≡ phase) × (line.who.item < number))

-- items may still be run: its lines are of items before this number, of which none was cut short
pub record GoesOn (plan : Plan) (phase session number : ℕ) (front : List Line) : Type 0 where
  pub earlier : AllByRecursion (IsEarlier phase session number) front
  pub whole : (who : Who) (item : Item) → who.phase ≡ phase → who.session ≡ session → who.item < number →
      item_of plan who ≡ Some item → IsCut (kind_of item.task) (own who front) → ⊥

-- The session has done these tasks.
pub record SoFar (size : ℕ) (plan : Plan) (phase : ℕ) (names : List (List ℕ)) (start now : View) (tasks : List Task)
    (progress : Progress) : Type 0 where
  pub sized : now.opened.base.page_count ≡ size
  pub left : SessionLeft size plan phase start now
  pub goes : progress.stopped ≡ false → GoesOn plan phase start.session (length tasks + 1) now.front
  pub counted : length progress.kept ≡ length tasks
  pub kept : (wanting : Who → Bool) → Says wanting phase start.session 1 progress.kept → (tables : World Tables) →
      ShowsAlong (sql size) (item_of plan) now.opened.pages tables now.front →
      KeptOf size names tasks
      (λ (number : ℕ). known_by size plan wanting tables now.front (who_is phase start.session number)) progress

-- ---- one step

abbrev pub Stepped : {E : Type 0} → ℕ → Plan → ℕ → List (List ℕ) → View → View → List Task → Progress →
    Result (Unit {0}) E → Type 0
Stepped size plan phase names start new tasks progress (Ok u) = SoFar size plan phase names start new tasks progress
Stepped size plan phase names start new tasks progress (Err why) = SessionLeft size plan phase start new

-- the session has done the tasks before this item, and then that one too, unless memory was wanting
abbrev pub StepsOn : {E : Type 0} → Who → Item → View → View → Progress → Progress → Result (Unit {0}) E → Type 0
StepsOn who item old new before behind answered =
    (size : ℕ) (plan : Plan) (start : View) (tasks : List Task) → who.item ≡ length tasks + 1 →
    item_of plan who ≡ Some item →
    SoFar size plan who.phase item.names start old tasks before →
    Stepped size plan who.phase item.names start new (tasks ++ item.task ∷ []) behind answered
