-- Calls over many snapshots, as a session runs them.
use Rattle.std.specs.Prelude.{◌≡◌, ◌&&◌, ◌==◌, ℕ, Bool, true, not, List, [], codes, length, map, flat_map}
use Rattle.std.specs.Prelude.{Option, Some, None, is_none, option_to_list, Result, Ok, Err, IfOk, nat_le}
use Rattle.retro_base.specs.Gives.{◌>>=◌}
use Rattle.std.specs.List.{list_any}
use Rattle.history.specs.Marks.{newest}
use Rattle.history.specs.Writes.{rises}
use Rattle.history.specs.declared.entry.Mark.{Mark as MarkOf}
use Rattle.pager.specs.declared.stop.Stop.{Stop}
use Rattle.pager.specs.declared.stop.Stop.TheVariants as stop
use Rattle.retro_base.specs.declared.refusal.Refusal.{Refusal}
use Rattle.retro_base.specs.declared.refusal.Refusal.TheVariants as refusal
use Rattle.retro_base.specs.declared.who.Who.{Who}
use Rattle.rql.specs.AsOf.{Answers}
use Rattle.rql_arguments.specs.declared.call.Call.{Call as CallSaid}
use Rattle.rql_arguments.specs.declared.call.Combination.{Combination}
use Rattle.sql_select.specs.declared.answer.Answer.{Answer}
use Rattle.sql_tree.specs.Expression.{Column}
use Rattle.sql_tree.specs.declared.name.ColumnName.{ColumnName}
use Rattle.sql_tree.specs.declared.select.Output.{Output}
use Rattle.sql_tree.specs.declared.select.OutputValue.TheVariants as value
use Rattle.sql_tree.specs.declared.select.Select.{Select}
use Rattle.tables.specs.Tables.{Tables}
use Rattle.journal_law.specs.Fates.{fate}
use Rattle.journal_law.specs.Seats.{Look, Looking, Moves, UnlookGives, View, at_look, names_in, names_of}
use Rattle.journal_law.specs.Shows.{Shows, ShowsAlong}
use Rattle.journal_law.specs.World.{World}
use Rattle.session.specs.Asking.{TellsPast}
use Rattle.session.specs.Ending.{Concludes, ending_of, told_of}
use Rattle.session.specs.OneItem.{MayRun}
use Rattle.session.specs.OverSnapshots.{asked_of, called, combined, numbers_of, snapshots_table}
use Rattle.session.specs.Plan.{Item, Plan, item_of}
use Rattle.session.specs.declared.plan.Task.TheVariants.{Call}
use Rattle.session.specs.Replies.{left}
use Rattle.session.specs.Singles.{of_query, of_seat, row_of_mark}
use Rattle.session.specs.Sql.{sql}
use Rattle.session.specs.Wording.{count_text}
use Rattle.session.specs.declared.result_table.ResultTable.{ResultTable}

-- a call, in a phase whose sessions have these names
abbrev pub item_call : List (List ℕ) → CallSaid → Item
item_call names call = record { names = names; task = Call call }

abbrev pub has_number : ℕ → List MarkOf → Bool
has_number number marks = list_any (λ (mark : MarkOf). mark.number == number) marks

-- the number is that of a retained snapshot
abbrev pub is_retained : ℕ → List MarkOf → Bool
is_retained number marks = not (number == 0) && nat_le number (newest marks) && has_number number marks

-- what a call ends with over a look, by the last refusal of its seat
abbrev pub ended : Result Answer (Stop Refusal) → Option Refusal → Result Answer Refusal
ended (Ok answer) last = Ok answer
ended (Err (stop.Refused why)) last = Err (of_query why)
ended (Err (stop.Pager fault)) last = Err (of_seat last)

-- whatever the query's answers may be at the snapshots at which the open look of an honest seat looks, this is what
-- they are in one
abbrev pub Combines : Select → Combination → List ℕ → Type 0 → View → Result Answer Refusal → Type 0
Combines query combination numbers honest view answered =
    honest → (answers : Answers) → TellsPast view answers →
    combined combination (λ (n : ℕ). answers n query) numbers ≡ answered

-- whatever tables the pages hold at which the open look of an honest seat looks, this is the call's result over them
abbrev pub CallsOver : CallSaid → Type 0 → View → Result Answer Refusal → Type 0
CallsOver call honest view answered =
    honest → (look : Look) (tables : World Tables) → view.work ≡ Looking look →
    Shows (sql view.opened.base.page_count) (at_look view look) tables → called call tables ≡ answered

-- and what they are over no snapshots
abbrev pub CombinesNone : Select → Combination → Result Answer Refusal → Type 0
CombinesNone query combination answered =
    (answers : Answers) → combined combination (λ (n : ℕ). answers n query) [] ≡ answered

-- the open look is one at all snapshots, which have these numbers and labels
abbrev pub LooksAtMarks : View → List MarkOf → Type 0
LooksAtMarks view marks = (look : Look) → view.work ≡ Looking look → (look.snapshot ≡ None)
    × (names_of marks ≡ names_in (at_look view look))

-- the numbers that a list of the snapshots of these marks gives
abbrev pub numbers_listed : Select → List MarkOf → Result (List ℕ) Refusal
numbers_listed query marks = do
  listed ← asked_of query snapshots_table (map row_of_mark marks)
  Ok (flat_map numbers_of listed.rows)

-- the numbers of all these marks, in order
abbrev pub marked_numbers : List MarkOf → List ℕ
marked_numbers marks = map (λ (mark : MarkOf). mark.number) marks

-- they rise from 1
abbrev pub AreRising : List MarkOf → Type 0
AreRising marks = rises 1 (marked_numbers marks) ≡ true

-- whichever snapshots there are, the list gives the numbers of all, in their order
abbrev pub ListsAll : Select → Type 0
ListsAll query = (marks : List MarkOf) → numbers_listed query marks ≡ Ok (marked_numbers marks)

-- the column of the numbers, by its plain name
abbrev pub number_column : ColumnName
number_column = record { table = None; column = codes "snap_id" }

-- the output is the number of a snapshot
abbrev pub IsNumber : Output → Type 0
IsNumber output = output.value ≡ value.Expression (Column number_column)

-- whether a select is of one table and takes its rows as they stand
abbrev pub is_bare : Select → Bool
is_bare query =
    not query.distinct && is_none query.second && is_none query.condition
    && (length query.group_by == 0) && (length query.order_by == 0) && is_none query.limit

-- what a call ends with whose result is this: its reply, with the table that it leaves; or a refusal, or want of memory
abbrev pub CallEnds : List ℕ → Result Answer Refusal → Result (List ℕ) Refusal → Option ResultTable → Type 0
CallEnds name (Ok answer) (Ok text) table =
    (text ≡ count_text answer) × (table ≡ Some (record { name = name; answer = answer }))
CallEnds name (Ok answer) (Err why) table = (why ≡ refusal.OutOfMemory) × (table ≡ None)
CallEnds name (Err why) (Ok text) table = ⊥
CallEnds name (Err why) (Err other) table = (other ≡ why) × (table ≡ None)

-- An open look has ended with the result of a call, and leaves this table.
pub record CallLeaves {E : Type 0} (names : List (List ℕ)) (call : CallSaid) (honest : Type 0) (old new : View)
    (words : Result (Option (List ℕ)) E) (table : Option ResultTable) : Type 0 where
  pub between : View
  pub moves : Moves old between []
  pub work : between.work ≡ old.work
  pub answer : Result Answer Refusal
  pub concludes : Concludes (CallsOver call honest old) between answer
  pub text : Result (List ℕ) Refusal
  pub gives : CallEnds call.table answer text table
  pub ends : (look : Look) → old.work ≡ Looking look → UnlookGives (ending_of text) between new look
  pub tells : IfOk words (λ w. w ≡ Some (told_of names text))

-- Whatever tables the pages held, the item has left this table.
abbrev pub LeavesTable : Who → Item → View → View → Option ResultTable → Type 0
LeavesTable who item old new table =
    (size : ℕ) (plan : Plan) → MayRun size plan who item old → (tables : World Tables) →
    ShowsAlong (sql size) (item_of plan) new.opened.pages tables new.front
    → option_to_list table ≡ left item.task (fate (sql size) (item_of plan) who tables new.front)
