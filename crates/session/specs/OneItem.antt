-- What running one item of a session leaves, and what is told of it.
use Rattle.std.specs.Prelude.{◌≡◌, ◌++◌, ℕ, true, false, List, [], Option, Some, None}
use Rattle.std.specs.List.{AllByRecursion}
use Rattle.retro_base.specs.declared.who.Who.{Who}
use Rattle.history.specs.declared.journal.Line.{Line}
use Rattle.journal_law.specs.Fates.{IsReply}
use Rattle.journal_law.specs.Lawful.{IsRun}
use Rattle.journal_law.specs.Own.{own}
use Rattle.journal_law.specs.Seating.{Sane}
use Rattle.journal_law.specs.Seats.{Idle, View}
use Rattle.session.specs.Plan.{Item, Plan, item_of}
use Rattle.session.specs.Replies.{is_cut}
use Rattle.session.specs.Sql.{kind_of, sql}

-- The seat may run this item: nothing is open, its lines fit, and the item is one of its session that has no line.
pub record MayRun (size : ℕ) (plan : Plan) (who : Who) (item : Item) (view : View) : Type 0 where
  pub idle : view.work ≡ Idle
  pub fits : Sane (sql size) (item_of plan) view
  pub mine : who.session ≡ view.session
  pub is : item_of plan who ≡ Some item
  pub sized : view.opened.base.page_count ≡ size
  pub fresh : own who view.front ≡ []

-- a line of the session is of this item
abbrev pub OfItem : Who → Line → Type 0
OfItem who line = line.who.session ≡ who.session → line.who ≡ who

-- The item has been run: its session has added lines of this item alone, they fit and are those of a run, and nothing
-- is open.
pub record ItemRan (size : ℕ) (plan : Plan) (who : Who) (item : Item) (old new : View) : Type 0 where
  pub session : new.session ≡ old.session
  pub opened : new.opened ≡ old.opened
  pub more : List Line
  pub front : new.front ≡ old.front ++ more
  pub of_item : AllByRecursion (OfItem who) more
  pub idle : new.work ≡ Idle
  pub fits : Sane (sql size) (item_of plan) new
  pub is_run : IsRun (kind_of item.task) (own who new.front)

-- What is told of an item that needs lines: its reply, whatever tables the pages held; or nothing, where it was cut
-- short.
abbrev pub IsTold : ℕ → Plan → Who → Item → View → Option (List ℕ) → Type 0
IsTold size plan who item new (Some text) =
    (is_cut (kind_of item.task) (own who new.front) ≡ false)
    × IsReply (sql size) (item_of plan) new.opened.pages who item new.front text
IsTold size plan who item new None = is_cut (kind_of item.task) (own who new.front) ≡ true

-- The contract of an item: from a seat that may run it, it is run, whatever the store answers.
abbrev pub RunsItem : Who → Item → View → View → Type 0
RunsItem who item old new = (size : ℕ) (plan : Plan) → MayRun size plan who item old →
    ItemRan size plan who item old new

-- and this is told of it
abbrev pub TellsItem : Who → Item → View → View → Option (List ℕ) → Type 0
TellsItem who item old new told = (size : ℕ) (plan : Plan) → MayRun size plan who item old →
    IsTold size plan who item new told
