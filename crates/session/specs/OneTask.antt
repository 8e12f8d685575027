-- What the run of one item of a session answers.
use Rattle.std.specs.Prelude.{◌≡◌, ◌⊎◌, ℕ, List, Option, Some, None, option_to_list, Result, Ok, Err}
use Rattle.retro_base.specs.declared.refusal.Refusal.TheVariants as refusal
use Rattle.retro_base.specs.declared.who.Who.{Who}
use Rattle.tables.specs.Tables.{Tables}
use Rattle.journal_law.specs.Fates.{fate}
use Rattle.journal_law.specs.Language.{Kind}
use Rattle.journal_law.specs.Language as law
use Rattle.journal_law.specs.Seats.{View}
use Rattle.journal_law.specs.Shows.{ShowsAlong}
use Rattle.journal_law.specs.World.{World}
use Rattle.session.specs.OneItem.{IsTold, ItemRan, MayRun}
use Rattle.session.specs.Plan.{Item, Plan, item_of}
use Rattle.session.specs.Replies.{left, lineless}
use Rattle.session.specs.Sql.{kind_of, sql}
use Rattle.session.specs.Wording.{refusal_text}
use Rattle.session.specs.declared.item.Done.{Done}
use Rattle.session.specs.declared.item.Done.TheVariants as done
use Rattle.session.specs.declared.result_table.ResultTable.{ResultTable}

-- the item leaves this result table, or none, whatever tables the pages held
abbrev pub IsLeft : ℕ → Plan → Who → Item → View → Option ResultTable → Type 0
IsLeft size plan who item new table =
    (tables : World Tables) → ShowsAlong (sql size) (item_of plan) new.opened.pages tables new.front →
    option_to_list table ≡ left item.task (fate (sql size) (item_of plan) who tables new.front)

-- That is the reply of an item of this kind. Of one without lines it follows from the result tables before it; or it
-- says that memory was wanting.
abbrev pub IsToldBy : ℕ → Plan → Who → Item → List ResultTable → View → Kind → List ℕ → Type 0
IsToldBy size plan who item results new law.Lineless text = (text ≡ refusal_text item.names refusal.OutOfMemory)
    ⊎ (text ≡ lineless results item.task)
IsToldBy size plan who item results new kind text = IsTold size plan who item new (Some text)

abbrev pub IsDone : ℕ → Plan → Who → Item → List ResultTable → View → Done → Type 0
IsDone size plan who item results new (done.Told text table) =
    IsToldBy size plan who item results new (kind_of item.task) text × IsLeft size plan who item new table
IsDone size plan who item results new done.CutShort = IsTold size plan who item new None

-- what is answered, unless memory was wanting for it
abbrev pub AnswersItem : {E : Type 0} → ℕ → Plan → Who → Item → List ResultTable → View → Result Done E → Type 0
AnswersItem size plan who item results new (Ok done) = IsDone size plan who item results new done
AnswersItem size plan who item results new (Err why) = Unit {0}

-- The contract of the run of one item, from these result tables: from a seat that may run it, it is run, whatever the
-- store answers.
abbrev pub RunsTask : {E : Type 0} → Who → Item → List ResultTable → View → View → Result Done E → Type 0
RunsTask who item results old new answered =
    (size : ℕ) (plan : Plan) → MayRun size plan who item old → ItemRan size plan who item old new
    × AnswersItem size plan who item results new answered
