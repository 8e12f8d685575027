-- What a seat's open look at all snapshots tells of the answers of queries.
use Rattle.std.specs.Prelude.{◌≡◌, ℕ, Some, Ok}
use Rattle.retro_base.specs.declared.refusal.Refusal.{Refusal}
use Rattle.retro_base.specs.declared.refusal.Refusal.TheVariants as refusal
use Rattle.rql.specs.AsOf.{Answers}
use Rattle.seat_pager.specs.Laws.{unedited}
use Rattle.sql_exec.specs.Stored.{IsStored}
use Rattle.sql_tree.specs.declared.select.Select.{Select}
use Rattle.tables.specs.Meaning.{asked}
use Rattle.tables.specs.Tables.{Tables}
use Rattle.journal_law.specs.Lawful.{Ground}
use Rattle.journal_law.specs.Pages.{Pages as Bytes, page_world}
use Rattle.journal_law.specs.Seats.{Look, Looking, View, Work}
use Rattle.journal_law.specs.World.{as_of}

-- a refusal that a query may have; want of memory in place of any other
abbrev pub of_query_alone : Refusal → Refusal
of_query_alone (refusal.NotAStore device place) = refusal.NotAStore device place
of_query_alone refusal.UnknownName = refusal.UnknownName
of_query_alone refusal.NameTaken = refusal.NameTaken
of_query_alone refusal.WrongType = refusal.WrongType
of_query_alone refusal.Overflow = refusal.Overflow
of_query_alone why = refusal.OutOfMemory

-- tables that the pages hold, over which these are the answers at a snapshot
pub record AnswersOver (size snapshot : ℕ) (held : Bytes) (answers : Answers) : Type 0 where
  pub tables : Tables
  pub stored : IsStored size (unedited held) tables
  pub are : (query : Select) → asked query (Some snapshot) tables ≡ answers snapshot query

-- with this opening and this work, these may be the answers at each snapshot at which the open look looks
abbrev pub TellsAt : Ground → Work → Answers → Type 0
TellsAt opened work answers =
    (look : Look) (snapshot : ℕ) (held : Bytes) → work ≡ Looking look →
    as_of snapshot (page_world opened.pages look.since) ≡ Ok held →
    AnswersOver opened.base.page_count snapshot held answers

abbrev pub TellsPast : View → Answers → Type 0
TellsPast view answers = TellsAt view.opened view.work answers
