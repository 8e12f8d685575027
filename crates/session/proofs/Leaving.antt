-- The result tables that calls leave.
use Rattle.std.proofs.Common.{◌≡◌, ◌∙◌, ◌++◌, ℕ, List, [], ◌∷◌, Option, Some, None, Result, Ok, Err, refl, ap, sym, subst, append_assoc, append-nil}
use Rattle.std.specs.Prelude.{option_map, option_to_list}
use Rattle.retro_base.specs.declared.refusal.Refusal.{Refusal}
use Rattle.retro_base.specs.declared.refusal.Refusal.TheVariants as refusal
use Rattle.retro_base.specs.declared.who.Who.{Who}
use Rattle.history.specs.declared.entry.Mark.{Mark as MarkOf}
use Rattle.history.specs.declared.journal.Line.{Line}
use Rattle.history.specs.declared.journal.What.{What}
use Rattle.history.specs.declared.journal.What.TheVariants.{LookedAll}
use Rattle.rql_arguments.specs.declared.call.Call.{Call as CallSaid}
use Rattle.sql_select.specs.declared.answer.Answer.{Answer}
use Rattle.tables.specs.Tables.{Tables}
use Rattle.journal_law.specs.Fates.{Fate, began_of, fate, fate_with}
use Rattle.journal_law.specs.Lawful.{Ground}
use Rattle.journal_law.specs.LinesFit.{All}
use Rattle.journal_law.specs.Own.{SinceLine, line, own}
use Rattle.journal_law.specs.Pages.{page_world}
use Rattle.journal_law.specs.Seats.{Look, LookAllGives, Moves, View, at_look, lines_before, unlooking}
use Rattle.journal_law.specs.Shows.{Shows, ShowsAlong, world}
use Rattle.journal_law.specs.World.{World}
use Rattle.journal_law.proofs.Journal.{along_end, along_front}
use Rattle.journal_law.proofs.Lasts.{began_there, fate_line, no_fate_own}
use Rattle.session.specs.Calls.{CallEnds, CallLeaves, CallsOver, LeavesTable, item_call}
use Rattle.session.specs.Ending.{Concludes, ending_of}
use Rattle.session.specs.OneItem.{MayRun}
use Rattle.session.specs.OverSnapshots.{called}
use Rattle.session.specs.Plan.{Plan, item_of}
use Rattle.session.specs.declared.plan.Task.TheVariants.{Call}
use Rattle.session.specs.Replies.{left, left_by}
use Rattle.session.specs.Sql.{sql}
use Rattle.session.specs.declared.result_table.ResultTable.{ResultTable}
use Rattle.session.proofs.Going.{own_behind}
use Rattle.session.proofs.Looks.{at_end, looked_all, looks_on}
use Rattle.session.proofs.Settling.{fresh_of}

-- what the last line of a call leaves
abbrev leaves_by : CallSaid → What → World Tables → List ResultTable
leaves_by call what w = left (Call call) (Some (record { now = w; last = what; began = Some w }))

left_last : (call : CallSaid) (end : Result (List ℕ) Refusal) (now w : World Tables) (earlier : Option (Fate Tables)) → began_of earlier ≡ Some w
    → left (Call call) (Some (fate_with now (unlooking (ending_of end)) earlier)) ≡ leaves_by call (unlooking (ending_of end)) w
left_last call (Ok text) now w earlier began = rw began refl
left_last call (Err (refusal.DiskFault device count)) now w earlier began = refl
left_last call (Err why) now w earlier began = refl

-- the table that is kept is the one that is left
kept_left : (call : CallSaid) (answer : Result Answer Refusal) (text : Result (List ℕ) Refusal) (table : Option ResultTable) (w : World Tables) → CallEnds call.table answer text table
    → ((a : Answer) → answer ≡ Ok a → called call w ≡ Ok a) → option_to_list table ≡ leaves_by call (unlooking (ending_of text)) w
kept_left call (Ok a) (Ok text) table w gives so =
    ap (λ (t : Option ResultTable). option_to_list t) gives.1 ∙ sym (ap (left_by call.table) (so a refl))
kept_left call (Err why) (Ok text) table w gives so = absurd gives
kept_left call (Ok a) (Err (refusal.DiskFault device count)) table w gives so = ap (λ (t : Option ResultTable). option_to_list t) gives.1
kept_left call (Ok a) (Err why) table w gives so = ap (λ (t : Option ResultTable). option_to_list t) gives.1
kept_left call (Err other) (Err (refusal.DiskFault device count)) table w gives so = ap (λ (t : Option ResultTable). option_to_list t) gives.1
kept_left call (Err other) (Err why) table w gives so = ap (λ (t : Option ResultTable). option_to_list t) gives.1

concluded_so : (call : CallSaid) (honest : Type 0) (old between : View) (answer : Result Answer Refusal) (a : Answer) → Concludes (CallsOver call honest old) between answer → answer ≡ Ok a → CallsOver call honest old (Ok a)
concluded_so call honest old between answer a concludes is = subst (Concludes (CallsOver call honest old) between) is concludes

-- where the look stands just before its last line
record IsAtEnd (size : ℕ) (plan : Plan) (who : Who) (since : List Line) (between new : View) (what : What) : Type 0 where
  before : List Line
  front : new.front ≡ before ++ line who what ∷ []
  rest : List Line
  at : SinceLine who LookedAll before since rest

at_its_end : (size : ℕ) (plan : Plan) (who : Who) (call : CallSaid) (names : List (List ℕ)) (marks : List MarkOf) (old now between new : View) (what : What) → MayRun size plan who (item_call names call) old
    → (gives : LookAllGives who old now (Ok marks)) → Moves now between [] → between.work ≡ now.work → Moves between new (line who what ∷ []) → IsAtEnd size plan who gives.0 between new what
at_its_end size plan who call names marks old now between new what may gives on work moves =
    let opens = looked_all (sql size) (item_of plan) who (item_call names call) marks old now (fresh_of size plan who (item_call names call) old may) refl gives in
    let is_now = looks_on (sql size) (item_of plan) who All gives.0 old now between may.mine opens on work in
    record {
      before = lines_before between new moves;
      front = moves.front;
      rest = is_now.rest ++ moves.others;
      at = at_end (sql size) (item_of plan) who All gives.0 what old between new may.mine is_now moves;
    }

-- the tables in the world where the look began
shown_there : (size : ℕ) (plan : Plan) (who : Who) (since : List Line) (between new : View) (what : What) (tables : World Tables) → IsAtEnd size plan who since between new what
    → ShowsAlong (sql size) (item_of plan) new.opened.pages tables new.front → Shows (sql size) (page_world new.opened.pages since) (world (sql size) (item_of plan) tables since)
shown_there size plan who since between new what tables end along =
    let whole : new.front ≡ since ++ ((line who LookedAll ∷ [] ++ end.rest) ++ line who what ∷ []) =
    end.front ∙ ap (λ (ls : List Line). ls ++ line who what ∷ []) (end.at.whole ∙ append_assoc since (line who LookedAll ∷ []) end.rest) ∙ append_assoc since (line who LookedAll ∷ [] ++ end.rest) (line who what ∷ []) in
    along_end (sql size) (item_of plan) new.opened.pages tables since
    (along_front (sql size) (item_of plan) new.opened.pages tables since ((line who LookedAll ∷ [] ++ end.rest) ++ line who what ∷ [])
    (subst (λ (ls : List Line). ShowsAlong (sql size) (item_of plan) new.opened.pages tables ls) whole along))

pub leaves_table : {E : Type 0} (names : List (List ℕ)) (who : Who) (call : CallSaid) (honest : Type 0) (marks : List MarkOf) (old now new : View) (words : Result (Option (List ℕ)) E) (table : Option ResultTable)
    → LookAllGives who old now (Ok marks) → honest → CallLeaves names call honest now new words table → LeavesTable who (item_call names call) old new table
leaves_table names who call honest marks old now new words table gives is_honest leaves size plan may tables along =
    let one : Look = record { who = who; since = gives.0; snapshot = None } in
    let what = unlooking (ending_of leaves.text) in
    let added = leaves.ends one gives.1.work_is in
    let end = at_its_end size plan who call names marks old now leaves.between new what may gives leaves.moves leaves.work added.moves in
    let there = world (sql size) (item_of plan) tables gives.0 in
    let ground : new.opened ≡ now.opened = added.moves.opened ∙ leaves.moves.opened in
    let shows : Shows (sql now.opened.base.page_count) (at_look now one) there =
    subst (λ (s : ℕ). Shows (sql s) (at_look now one) there) (sym (ap (λ (g : Ground). g.base.page_count) gives.1.moves.opened ∙ may.sized))
    (subst (λ (g : Ground). Shows (sql size) (page_world g.pages gives.0) there) ground (shown_there size plan who gives.0 leaves.between new what tables end along)) in
    kept_left call leaves.answer leaves.text table there leaves.gives (λ a is. concluded_so call honest now leaves.between leaves.answer a leaves.concludes is is_honest one there gives.1.work_is shows)
    ∙ sym (left_last call leaves.text (world (sql size) (item_of plan) tables end.before) there (fate (sql size) (item_of plan) who tables end.before)
    (began_there (sql size) (item_of plan) who LookedAll tables end.before gives.0 end.rest refl end.at))
    ∙ ap (left (Call call)) (sym (fate_line (sql size) (item_of plan) who what tables end.before))
    ∙ ap (λ (ls : List Line). left (Call call) (fate (sql size) (item_of plan) who tables ls)) (sym end.front)

waits_left : (names : List (List ℕ)) (who : Who) (call : CallSaid) (old new : View) → Moves old new [] → LeavesTable who (item_call names call) old new None
waits_left names who call old new moves size plan may tables along =
    ap (left (Call call)) (sym (no_fate_own (sql size) (item_of plan) who tables None new.front
    (ap (own who) (moves.front ∙ append-nil (old.front ++ moves.others)) ∙ own_behind who old.session old.front moves.others may.mine moves.apart ∙ may.fresh)))

-- a call without a look leaves none
pub none_left : (names : List (List ℕ)) (who : Who) (call : CallSaid) (why : Refusal) (old new : View) → LookAllGives who old new (Err why) → LeavesTable who (item_call names call) old new None
none_left names who call (refusal.JournalFull lines images) old new gives = waits_left names who call old new gives.0.moves
none_left names who call why old new gives = waits_left names who call old new gives.0.moves
