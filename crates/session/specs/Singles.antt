-- The single items of a session: what is promised of running one, and how its answer comes about.
use Rattle.std.specs.Prelude.{◌≡◌, ℕ, List, [], ◌∷◌, map, Option, Some, Result, Ok, Err, pos, IfOk}
use Rattle.retro_base.specs.declared.refusal.Refusal.{Refusal}
use Rattle.retro_base.specs.declared.refusal.Refusal.TheVariants as refusal
use Rattle.retro_base.specs.declared.who.Who.{Who}
use Rattle.values.specs.declared.value.Value.{Value}
use Rattle.values.specs.declared.value.Value.TheVariants as value
use Rattle.history.specs.declared.entry.Mark.{Mark as MarkOf}
use Rattle.pager.specs.declared.stop.Stop.{Stop}
use Rattle.pager.specs.declared.stop.Stop.TheVariants as stop
use Rattle.sql_exec.specs.Stored.{IsStored}
use Rattle.sql_parts.specs.declared.parsed.AsOf.{AsOf as AsOfRecord}
use Rattle.sql_select.specs.declared.answer.Answer.{Answer}
use Rattle.sql_tree.specs.declared.select.Select.{Select}
use Rattle.tables.specs.Meaning.{asked}
use Rattle.tables.specs.Tables.{Tables}
use Rattle.journal_law.specs.Pages.{Pages as Bytes}
use Rattle.journal_law.specs.Seats.{Look, Looking, View, at_look}
use Rattle.journal_law.specs.World.{as_of}
use Rattle.seat_pager.specs.Laws.{unedited}
use Rattle.session.specs.OneItem.{RunsItem, TellsItem}
use Rattle.session.specs.OverSnapshots.{asked_of, snapshots_table}
use Rattle.session.specs.Plan.{Item}
use Rattle.session.specs.declared.plan.Task.TheVariants.{AsOf, DropBelow, SnapIds}
use Rattle.session.specs.Sql.{answer_told}
use Rattle.session.specs.Texts.{answer_text}

-- The item is run, whatever the store answers, and this is told of it, where there is memory for it.
pub record Settles {E : Type 0} (who : Who) (item : Item) (old new : View)
    (words : Result (Option (List ℕ)) E) : Type 0 where
  pub runs : RunsItem who item old new
  pub tells : IfOk words (TellsItem who item old new)

-- a query as of a snapshot, a query of the table of snapshots, and a drop, in a phase whose sessions have these names
abbrev pub item_as_of : List (List ℕ) → AsOfRecord → Item
item_as_of names query = record { names = names; task = AsOf query }

abbrev pub item_snap_ids : List (List ℕ) → Select → Item
item_snap_ids names query = record { names = names; task = SnapIds query }

abbrev pub item_drop_below : List (List ℕ) → ℕ → Item
item_drop_below names below = record { names = names; task = DropBelow below }

-- ---- the answer of a query as of a snapshot

-- Whatever tables the pages hold as of the snapshot at which the open look of an honest seat looks, this is the query's
-- answer over them.
abbrev pub AsksPast : Select → ℕ → Type 0 → View → Result (List ℕ) Refusal → Type 0
AsksPast query snapshot honest view answered =
    honest → (look : Look) (held : Bytes) → view.work ≡ Looking look → as_of snapshot (at_look view look) ≡ Ok held
    → (tables : Tables) → IsStored view.opened.base.page_count (unedited held) tables →
    answer_told answer_text (asked query (Some snapshot) tables) ≡ answered

-- a query has its own refusals; those that only a seat gives are none of it
abbrev pub of_query : Refusal → Refusal
of_query (refusal.DiskFault device count) = refusal.OutOfMemory
of_query (refusal.Overlap session item) = refusal.OutOfMemory
of_query why = why

-- the fault that a seat told of last, or want of memory
abbrev pub of_seat : Option Refusal → Refusal
of_seat (Some (refusal.DiskFault device count)) = refusal.DiskFault device count
of_seat last = refusal.OutOfMemory

-- what a query ends with over a pager of a look, by the last refusal of its seat
abbrev pub concluded : Result Answer (Stop Refusal) → Option Refusal → Result (List ℕ) Refusal
concluded (Ok answer) last = Ok (answer_text answer)
concluded (Err (stop.Refused why)) last = Err (of_query why)
concluded (Err (stop.Pager fault)) last = Err (of_seat last)

-- ---- the rows of the table of snapshots

-- the row of a snapshot
abbrev pub row_of_mark : MarkOf → List Value
row_of_mark mark = value.Int (pos mark.number) ∷ value.Text mark.label ∷ []

-- the answer of a query of the table of snapshots, of which these are the marks of the retained ones
abbrev pub AsksMarks : Select → List MarkOf → Result (List ℕ) Refusal → Type 0
AsksMarks query marks answered =
    answer_told answer_text (asked_of query snapshots_table (map row_of_mark marks)) ≡ answered

-- an answer, without what only a seat tells
abbrev pub without_seat : Result (List ℕ) Refusal → Result (List ℕ) Refusal
without_seat (Ok text) = Ok text
without_seat (Err why) = Err (of_query why)
