-- What the law of the journal takes from the language of the items: which tables pages hold, and what an item does to
-- tables and tells of them.
use Rattle.std.specs.Prelude.{ℕ, Bool, List, Option, Some, None, Result}
use Rattle.retro_base.specs.Gives.{◌>>=◌}
use Rattle.retro_base.specs.declared.refusal.Refusal.{Refusal}
use Rattle.journal_law.specs.Pages.{Pages}
use Rattle.journal_law.specs.World.{World, as_of}

-- how a transaction ends
pub data End : Type 0 where
  Commit : Option (List ℕ) → End
  Rollback : End

-- What an item does to the journal: a transaction, a look at one snapshot or at all, a drop of the snapshots below a
-- number, or nothing, as a line that the grammar refuses.
pub data Kind : Type 0 where
  Transaction : End → Kind
  AsOf : ℕ → Kind
  OverAll : Kind
  DropBelow : ℕ → Kind
  Lineless : Kind

-- the reply lines that do not depend on tables
pub record Words : Type 0 where
  pub committed : ℕ → Option (List ℕ) → List ℕ
  pub rolled_back : List ℕ
  pub dropped : ℕ → List ℕ
  pub refused : Refusal → List ℕ
  pub not_run : List ℕ

pub record Language : Type 1 where
  pub Tables : Type 0
  pub Item : Type 0
  pub kind : Item → Kind
  -- well-formed pages that hold these tables
  pub IsStored : Pages → Tables → Type 0
  -- the tables behind the statements of a transaction
  pub after : Item → Tables → Tables
  -- the replies to its statements
  pub replies : Item → Tables → List ℕ
  -- the answer of a query over the tables of its snapshot, and over those of all snapshots
  pub asks : Item → Tables → Result (List ℕ) Refusal
  pub asks_all : Item → World Tables → Result (List ℕ) Refusal
  -- whether a statement of a transaction is more than a select
  pub changes : Item → Bool
  -- the statements, run from these pages on, may edit the page
  pub Reaches : Item → Pages → ℕ → Type 0
  -- at one of the statements, run from these pages on, more pages are needed than are free
  pub IsShort : Item → Pages → Type 0
  -- an item's: a refusal that names a session says its name in the item's phase
  pub words : Item → Words

module _ (L : Language) where
  -- the kind of an item that there is
  abbrev pub kind_of : Option L.Item → Option Kind
  kind_of None = None
  kind_of (Some item) = Some (L.kind item)

  -- the tables behind an item that commits
  abbrev pub after_of : Option L.Item → L.Tables → L.Tables
  after_of None tables = tables
  after_of (Some item) tables = L.after item tables

  abbrev pub answer_by : Kind → L.Item → World L.Tables → Result (List ℕ) Refusal
  answer_by (AsOf snapshot) item world = as_of snapshot world >>= L.asks item
  answer_by kind item world = L.asks_all item world

  -- the answer of a query in the world in which it looked
  abbrev pub answer : L.Item → World L.Tables → Result (List ℕ) Refusal
  answer item world = answer_by (L.kind item) item world
