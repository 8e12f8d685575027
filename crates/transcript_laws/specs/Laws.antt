-- What the visible lines of a transcript decide.
use Rattle.std.specs.Prelude.{◌≡◌, ◌++◌, ℕ, true, List, ◌∷◌, Some}
use Rattle.retro_base.specs.declared.device.Device.{Device}
use Rattle.retro_base.specs.declared.who.Who.{Who}
use Rattle.tables.specs.Tables.{Tables}
use Rattle.history.specs.declared.journal.Line.{Line}
use Rattle.journal_law.specs.Fates.{Fate, began_at, fate, reply}
use Rattle.journal_law.specs.Lawful.{Lawful, Opening}
use Rattle.journal_law.specs.Shows.{world}
use Rattle.journal_law.specs.World.{newest}
use Rattle.script.specs.Script.{IsScript}
use Rattle.script.specs.declared.structure.Script.{Script}
use Rattle.session.specs.Plan.{IsPlan, Item, Plan, item_of}
use Rattle.session.specs.Replies.{left}
use Rattle.session.specs.Sql.{sql}
use Rattle.session.specs.Visible.{visible_text}
use Rattle.transcript_laws.specs.Apart.{AreOfSeats, AreTold, HasNames}
use Rattle.transcript_laws.specs.Shown.{RolledBack, Shown, shown_lines, tells_reply}

-- Whoever has the visible lines has their text: nothing else of a journal is printed there.
abbrev pub ShownLinesTellText : Type 0
ShownLinesTellText =
    (plan : Plan) (newest : ℕ) (one other : List Line) → shown_lines one ≡ shown_lines other
    → visible_text plan newest one ≡ visible_text plan newest other

-- And whoever has the text has the visible lines, where whose they are has a name and their numbers have 64 bits.
abbrev pub TextTellsShownLines : Type 0
TextTellsShownLines =
    (plan : Plan) (newest : ℕ) (one other : List Line) → HasNames plan → AreTold plan one → AreTold plan other
    → visible_text plan newest one ≡ visible_text plan newest other → shown_lines one ≡ shown_lines other

-- ---- from an opening

-- a run of this plan may leave this journal
pub record MayLeave (size : ℕ) (plan : Plan) (o : Opening (sql size)) (journal : List Line) : Type 0 where
  pub ending : Device → ℕ
  pub lawful : Lawful (sql size) (item_of plan) o ending journal

-- or one that begins with these lines
pub record MayBegin (size : ℕ) (plan : Plan) (o : Opening (sql size)) (front : List Line) : Type 0 where
  pub rest : List Line
  pub leaves : MayLeave size plan o (front ++ rest)

-- Whoever has the script and the visible lines up to a place knows every table there, now and at each snapshot.
abbrev pub ShownLinesDecideTables : Type 0
ShownLinesDecideTables =
    (size : ℕ) (plan : Plan) (o : Opening (sql size)) (one other : List Line) → MayBegin size plan o one
    → MayBegin size plan o other → shown_lines one ≡ shown_lines other
    → world (sql size) (item_of plan) o.tables one ≡ world (sql size) (item_of plan) o.tables other

-- Whoever has the script and all visible lines knows the reply of each item that has one which tells it.
abbrev pub ShownLinesDecideReplies : Type 0
ShownLinesDecideReplies =
    (size : ℕ) (plan : Plan) (o : Opening (sql size)) (one other : List Line) → MayLeave size plan o one
    → MayLeave size plan o other → shown_lines one ≡ shown_lines other
    → (who : Who) (item : Item) (said : Shown) (front rest : List (Who × Shown)) → item_of plan who ≡ Some item
    → shown_lines one ≡ front ++ (who, said) ∷ rest → tells_reply said ≡ true
    → reply (sql size) item (fate (sql size) (item_of plan) who o.tables one)
    ≡ reply (sql size) item (fate (sql size) (item_of plan) who o.tables other)

-- Of an item that was rolled back this takes more: the tables with which its last attempt began.
abbrev pub ShownLinesDecideRollbacks : Type 0
ShownLinesDecideRollbacks =
    (size : ℕ) (plan : Plan) (o : Opening (sql size)) (one other : List Line) → MayLeave size plan o one
    → MayLeave size plan o other → shown_lines one ≡ shown_lines other
    → (who : Who) (item : Item) (front rest : List (Who × Shown)) (f g : Fate Tables) → item_of plan who ≡ Some item
    → shown_lines one ≡ front ++ (who, RolledBack) ∷ rest
    → fate (sql size) (item_of plan) who o.tables one ≡ Some f
    → fate (sql size) (item_of plan) who o.tables other ≡ Some g → (began_at f).current ≡ (began_at g).current
    → reply (sql size) item (fate (sql size) (item_of plan) who o.tables one)
    ≡ reply (sql size) item (fate (sql size) (item_of plan) who o.tables other)

-- Whoever has the script and all visible lines knows the result table that each item leaves.
abbrev pub ShownLinesDecideResults : Type 0
ShownLinesDecideResults =
    (size : ℕ) (plan : Plan) (o : Opening (sql size)) (one other : List Line) → MayLeave size plan o one
    → MayLeave size plan o other → shown_lines one ≡ shown_lines other
    → (who : Who) (item : Item) → item_of plan who ≡ Some item
    → left item.task (fate (sql size) (item_of plan) who o.tables one)
    ≡ left item.task (fate (sql size) (item_of plan) who o.tables other)

-- ---- from text

-- the plan of a script has names that are told apart
abbrev pub ScriptsHaveNames : Type 0
ScriptsHaveNames =
    (bytes : List ℕ) (script : Script) (plan : Plan) → IsScript bytes script → IsPlan script plan → HasNames plan

-- whose a line of a lawful journal is has a name
abbrev pub LawfulIsTold : Type 0
LawfulIsTold =
    (size : ℕ) (plan : Plan) (o : Opening (sql size)) (front : List Line) → MayBegin size plan o front
    → AreOfSeats front → AreTold plan front

-- a journal that a run of this plan may leave begins with these lines, and this is their text
pub record BeginsAs (size : ℕ) (plan : Plan) (o : Opening (sql size)) (text : List ℕ) (front : List Line) : Type 0 where
  pub begins : MayBegin size plan o front
  pub seats : AreOfSeats front
  pub is : text ≡ visible_text plan (newest o.tables) front

-- a run of this plan may leave this journal, and this is the text of its visible lines
pub record LeavesAs (size : ℕ) (plan : Plan) (o : Opening (sql size)) (text : List ℕ)
    (journal : List Line) : Type 0 where
  pub leaves : MayLeave size plan o journal
  pub seats : AreOfSeats journal
  pub is : text ≡ visible_text plan (newest o.tables) journal

-- Whoever has the script and the text up to a place knows every table there, now and at each snapshot.
abbrev pub TextDecidesTables : Type 0
TextDecidesTables =
    (size : ℕ) (plan : Plan) (o : Opening (sql size)) (text : List ℕ) (one other : List Line) → HasNames plan
    → BeginsAs size plan o text one → BeginsAs size plan o text other
    → world (sql size) (item_of plan) o.tables one ≡ world (sql size) (item_of plan) o.tables other

-- Whoever has the script and the whole text knows the reply of each item that has a visible line which tells it.
abbrev pub TextDecidesReplies : Type 0
TextDecidesReplies =
    (size : ℕ) (plan : Plan) (o : Opening (sql size)) (text : List ℕ) (one other : List Line) → HasNames plan
    → LeavesAs size plan o text one → LeavesAs size plan o text other
    → (who : Who) (item : Item) (said : Shown) (front rest : List (Who × Shown)) → item_of plan who ≡ Some item
    → shown_lines one ≡ front ++ (who, said) ∷ rest → tells_reply said ≡ true
    → reply (sql size) item (fate (sql size) (item_of plan) who o.tables one)
    ≡ reply (sql size) item (fate (sql size) (item_of plan) who o.tables other)

-- Whoever has the script and the whole text knows the result table that each item leaves.
abbrev pub TextDecidesResults : Type 0
TextDecidesResults =
    (size : ℕ) (plan : Plan) (o : Opening (sql size)) (text : List ℕ) (one other : List Line) → HasNames plan
    → LeavesAs size plan o text one → LeavesAs size plan o text other
    → (who : Who) (item : Item) → item_of plan who ≡ Some item
    → left item.task (fate (sql size) (item_of plan) who o.tables one)
    ≡ left item.task (fate (sql size) (item_of plan) who o.tables other)
