-- The laws, of the items of a script.
use Rattle.std.proofs.Common.{◌≡◌, ◌⊎◌, ◌++◌, List, [], Option, Some, None, refl, ap, sym, ◌∙◌, inl, inr}
use Rattle.std.specs.Prelude.{option_map}
use Rattle.std.specs.Option.{option_map_or}
use Rattle.tables.specs.Tables.{Tables}
use Rattle.history.specs.declared.journal.What.{What}
use Rattle.history.specs.declared.journal.What.TheVariants.{Unlooked}
use Rattle.journal_law.specs.Fates.{Fate, fate}
use Rattle.journal_law.specs.World.{World}
use Rattle.session.specs.OverSnapshots.{called}
use Rattle.session.specs.Plan.{item_of}
use Rattle.session.specs.Replies.{left, left_at, left_by}
use Rattle.rql_arguments.specs.declared.call.Call.{Call}
use Rattle.session.specs.Sql.{kind_of, sql}
use Rattle.session.specs.declared.plan.Task.{Task}
use Rattle.session.specs.declared.plan.Task.TheVariants as tasks
use Rattle.session.specs.declared.result_table.ResultTable.{ResultTable}
use Rattle.transcript_laws.specs.Laws.{ShownLinesDecideReplies, ShownLinesDecideResults, ShownLinesDecideRollbacks, ShownLinesDecideTables}
use Rattle.transcript_laws.specs.Shown.{Shown, shown}
use Rattle.transcript_laws.specs.Shown as seen
use Rattle.transcript_laws.proofs.Decided.{fates, replies, rollbacks, worlds}
use Rattle.transcript_laws.proofs.Redrawn.{Seen, plain, seen_by}
use Rattle.transcript_laws.proofs.Runs.{NoTransaction}

pub decide_tables : ShownLinesDecideTables
decide_tables size plan o one other begins too same =
    worlds (sql size) (item_of plan) o begins.leaves.ending too.leaves.ending (one ++ begins.rest)
    (other ++ too.rest) one begins.rest other too.rest
    begins.leaves.lawful too.leaves.lawful refl refl same

pub decide_replies : ShownLinesDecideReplies
decide_replies size plan o one other leaves too same who item said front rest is there tells =
    replies (sql size) (item_of plan) o who item leaves.ending too.ending one other front rest said
    leaves.lawful too.lawful is same there tells (λ a b c d. refl)

pub decide_rollbacks : ShownLinesDecideRollbacks
decide_rollbacks size plan o one other leaves too same who item front rest f g is there a b began =
    rollbacks (sql size) (item_of plan) o who item leaves.ending too.ending one other front rest f g
    leaves.lawful too.lawful is same there a b began

-- ---- result tables

-- the result table that a task leaves, by what is shown of its last line
abbrev left_seen : Task → World Tables → Option (World Tables) → Option Shown → List ResultTable
left_seen (tasks.Call call) at began (Some seen.Unlooked) = left_by call.table
    (called call (option_map_or (λ (w : World Tables). w) began at))
left_seen task at began said = []

abbrev left_shown : Task → Option (Seen Tables) → List ResultTable
left_shown task None = []
left_shown task (Some s) = left_seen task s.at s.began s.last

call_left : (call : Call) (f : Fate Tables) (what : What) → left_at (tasks.Call call) f what
    ≡ left_seen (tasks.Call call) f.now f.began (option_map plain (shown what))
call_left call f Unlooked = refl
call_left call f what = refl

left_is : (task : Task) (f : Option (Fate Tables)) → left task f ≡ left_shown task (option_map seen_by f)
left_is task None = refl
left_is (tasks.Call call) (Some f) = call_left call f f.last
left_is task (Some f) = refl

-- a transaction leaves none
look_or_none : (task : Task) → NoTransaction (kind_of task) ⊎ ((f : Option (Fate Tables)) → left task f ≡ [])
look_or_none (tasks.Transaction t) = inr none
  where
    none : (f : Option (Fate Tables)) → left (tasks.Transaction t) f ≡ []
    none None = refl
    none (Some f) = refl
look_or_none task = inl tt

pub decide_results : ShownLinesDecideResults
decide_results size plan o one other leaves too same who item is = by_task (look_or_none item.task)
  where
    by_task : NoTransaction (kind_of item.task) ⊎ ((f : Option (Fate Tables)) → left item.task f ≡ [])
        → left item.task (fate (sql size) (item_of plan) who o.tables one)
        ≡ left item.task (fate (sql size) (item_of plan) who o.tables other)
    by_task (inl reads) =
        left_is item.task (fate (sql size) (item_of plan) who o.tables one)
        ∙ ap (left_shown item.task) (fates (sql size)
        (item_of plan) o who item leaves.ending too.ending one other leaves.lawful too.lawful is reads same)
        ∙ sym (left_is item.task (fate (sql size) (item_of plan) who o.tables other))
    by_task (inr none) =
        none (fate (sql size) (item_of plan) who o.tables one)
        ∙ sym (none (fate (sql size) (item_of plan) who o.tables other))
