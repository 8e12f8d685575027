-- The language of the items of a script, over a store of so many pages.
use Rattle.std.specs.Prelude.{ℕ, List, [], flat_map, Some, Result, Ok, Err}
use Rattle.retro_base.specs.declared.refusal.Refusal.{Refusal}
use Rattle.script.specs.declared.structure.End.{End as ScriptEnd}
use Rattle.script.specs.declared.structure.End.TheVariants as ending
use Rattle.sql_exec.specs.Stored.{IsStored}
use Rattle.sql_select.specs.declared.answer.Answer.{Answer}
use Rattle.tables.specs.Meaning.{asked}
use Rattle.tables.specs.Tables.{Tables}
use Rattle.journal_law.specs.Language.{Commit, End, Kind, Language, Rollback}
use Rattle.journal_law.specs.Language as law
use Rattle.journal_law.specs.Pages.{Pages as Bytes}
use Rattle.journal_law.specs.World.{World}
use Rattle.seat_pager.specs.Laws.{unedited}
use Rattle.session.specs.OverSnapshots.{called, snapshots_asked}
use Rattle.session.specs.Plan.{Item}
use Rattle.session.specs.Reach.{IsShort, Reaches}
use Rattle.session.specs.Statements.{Lines, changes, replies, transaction}
use Rattle.session.specs.Texts.{answer_text}
use Rattle.session.specs.Wording.{count_text, outcome_text, words_of}
use Rattle.session.specs.declared.plan.Task.{Task}
use Rattle.session.specs.declared.plan.Task.TheVariants.{Transaction, AsOf, SnapIds, Call, DropBelow, Results, Syntax}

abbrev pub end_of : ScriptEnd → End
end_of (ending.Commit label) = Commit label
end_of ending.Rollback = Rollback

abbrev pub kind_of : Task → Kind
kind_of (Transaction t) = law.Transaction (end_of t.end)
kind_of (AsOf query) = law.AsOf query.snapshot
kind_of (SnapIds query) = law.OverAll
kind_of (Call call) = law.OverAll
kind_of (DropBelow below) = law.DropBelow below
kind_of (Results query) = law.Lineless
kind_of (Syntax place) = law.Lineless

-- the statement lines of a transaction; of another task none
abbrev pub lines_of : Task → Lines
lines_of (Transaction t) = t.statements
lines_of task = []

-- an answer as a text
abbrev pub answer_told : (Answer → List ℕ) → Result Answer Refusal → Result (List ℕ) Refusal
answer_told text (Ok answer) = Ok (text answer)
answer_told text (Err why) = Err why

-- the answer of a query as of its snapshot, over the tables there
abbrev pub asks : Task → Tables → Result (List ℕ) Refusal
asks (AsOf query) tables = answer_told answer_text (asked query.query (Some query.snapshot) tables)
asks task tables = Ok []

-- the answer of a query of the table of snapshots, and of a call: how many rows its result has
abbrev pub asks_all : Task → World Tables → Result (List ℕ) Refusal
asks_all (SnapIds query) world = answer_told answer_text (snapshots_asked query world)
asks_all (Call call) world = answer_told count_text (called call world)
asks_all task world = Ok []

-- the language of the items of scripts, over a store of this size
abbrev pub sql : ℕ → Language
sql size = record {
  Tables = Tables;
  Item = Item;
  kind = λ (item : Item). kind_of item.task;
  IsStored = λ (bytes : Bytes) (tables : Tables). IsStored size (unedited bytes) tables;
  after = λ (item : Item) (tables : Tables). transaction (lines_of item.task) tables;
  replies = λ (item : Item) (tables : Tables). flat_map outcome_text (replies (lines_of item.task) tables);
  asks = λ (item : Item). asks item.task;
  asks_all = λ (item : Item). asks_all item.task;
  changes = λ (item : Item). changes (lines_of item.task);
  Reaches = λ (item : Item) (bytes : Bytes). Reaches size (lines_of item.task) (unedited bytes);
  IsShort = λ (item : Item) (bytes : Bytes). IsShort size (lines_of item.task) (unedited bytes);
  words = λ (item : Item). words_of item.names;
}
