-- Which pages the statements of a transaction may edit, run one after the other, and where they need more than are
-- free.
use Rattle.std.specs.Prelude.{◌≡◌, ◌⊎◌, ℕ, true, [], ◌∷◌, Option, Some, None, Result, Ok, is_ok}
use Rattle.retro_base.specs.declared.refusal.Refusal.{Refusal}
use Rattle.pager.specs.Pages.{Pages}
use Rattle.relation_laws.specs.Work.{IsInReach, Work}
use Rattle.script.specs.declared.structure.Reading.{Reading}
use Rattle.script.specs.declared.structure.Reading.TheVariants.{Read, Syntax}
use Rattle.sql_exec.specs.Planning.{work_of}
use Rattle.sql_exec.specs.Promises.{IsFull}
use Rattle.sql_exec.specs.Running.{ran}
use Rattle.sql_exec.specs.Stored.{IsStored}
use Rattle.sql_tree.specs.declared.statement.Statement.{Statement}
use Rattle.tables.specs.Meaning.{does}
use Rattle.tables.specs.Tables.{Tables}
use Rattle.tables.specs.declared.reply.Reply.{Reply}
use Rattle.session.specs.Statements.{Lines, does_line}

-- the pages behind a statement line of this outcome: a refused one leaves them
abbrev pub StepsTo : ℕ → Reading Statement → Pages → Result Reply Refusal → Pages → Type 0
StepsTo size (Read statement) pages (Ok reply) after = ran size statement None pages (Ok (reply, after))
StepsTo size line pages outcome after = after ≡ pages

-- at one of these lines, in its turn, this holds of it, of the pages there and of the tables that they hold
abbrev pub AtOne : ℕ → (Reading Statement → Pages → Tables → Type 0) → Lines → Pages → Tables → Type 0
AtOne size Holds [] pages tables = ⊥
AtOne size Holds (line ∷ lines) pages tables =
    Holds line pages tables
    ⊎ ((after : Pages) × StepsTo size line pages (does_line line tables).1 after
    × AtOne size Holds lines after (does_line line tables).0)

-- the statement replies, and its piece of work may edit the page
abbrev pub LineReaches : ℕ → ℕ → Reading Statement → Pages → Tables → Type 0
LineReaches size page (Read statement) pages tables =
    (is_ok (does statement None tables) ≡ true) × (work : Work) × (work_of statement None tables ≡ Ok (Some work))
    × IsInReach size pages work page
LineReaches size page (Syntax place) pages tables = ⊥

-- the statement would reply, and its piece of work needs more pages than are free
abbrev pub LineIsShort : ℕ → Reading Statement → Pages → Tables → Type 0
LineIsShort size (Read statement) pages tables =
    (is_ok (does statement None tables) ≡ true) × (work : Option Work) × (work_of statement None tables ≡ Ok work)
    × IsFull size pages work
LineIsShort size (Syntax place) pages tables = ⊥

-- the statement lines, run one after the other from these pages and the tables that they hold, may edit the page
abbrev pub Reaches : ℕ → Lines → Pages → ℕ → Type 0
Reaches size lines pages page = (tables : Tables) → IsStored size pages tables →
    AtOne size (LineReaches size page) lines pages tables

-- at one of them more pages are needed than are free
abbrev pub IsShort : ℕ → Lines → Pages → Type 0
IsShort size lines pages = (tables : Tables) → IsStored size pages tables →
    AtOne size (LineIsShort size) lines pages tables
