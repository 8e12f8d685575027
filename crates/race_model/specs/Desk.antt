-- The desk as plain data: a history, and what the log's device and the pages' device may hold of it.
use Rattle.std.specs.Prelude.{◌≡◌, ◌⊎◌, ◌++◌, ℕ, Bool, false, List, [], ◌∷◌, get_or}
use Rattle.std.specs.List.{list_any}
use Rattle.history.specs.declared.entry.Change.{Change}
use Rattle.history.specs.declared.entry.Change.TheVariants.{Commit, Drop}
use Rattle.history.specs.declared.writes.PageImage.{PageImage}
use Rattle.history.specs.Writes.{pages_of, is_among}
use Rattle.history.specs.History.{State, run, captures, History}
use Rattle.history.specs.declared.log.Log.{Log}
use Rattle.history.specs.declared.log.Version.{Version}
use Rattle.replay.specs.Opened.{forgotten}

-- what a failed call may have left of the log beside its list: nothing; the list with one change more; a new base
-- alone, in records of a version
pub data Doubt : Type 0 where
  Sure : Doubt
  OneMore : Change → Doubt
  NewBase : Version → Doubt

-- The log is in records of a version. The changes of the history are those before its base and those that it lists. The
-- archive's lowest capture at the opening was `floor`. The devices open beside an archive that holds `need` captures;
-- `acked` are known to stand in it. The pages' device reads as `pages`: `loose` are those written since it was settled,
-- `dirty` those changed and not written.
pub record Desk : Type 0 where
  pub version : Version
  pub history : History
  pub floor : ℕ
  pub past : List Change
  pub rest : List Change
  pub need : ℕ
  pub acked : ℕ
  pub pages : ℕ → List ℕ
  pub loose : ℕ → Bool
  pub dirty : ℕ → Bool
  pub doubt : Doubt
  pub stopped : Bool

-- the archive of a history has so many slots
abbrev pub capacity_of : History → ℕ
capacity_of history = history.origin.base.capacity

-- the capture with this number
abbrev pub captured : History → ℕ → PageImage
captured history number = get_or (captures history) number forgotten

-- where a history stands behind some of its changes
abbrev pub behind : History → List Change → State
behind history changes = run history.origin changes

-- the log whose base stands there, and that lists these changes, in records of a version
abbrev pub log_from : Version → History → List Change → List Change → Log
log_from version history past rest = record { version = version; base = (behind history past).base; changes = rest }

abbrev pub IsInDoubt : Desk → Doubt → Log → Type 0
IsInDoubt desk Sure log = ⊥
IsInDoubt desk (OneMore change) log = log ≡ log_from desk.version desk.history desk.past (desk.rest ++ change ∷ [])
IsInDoubt desk (NewBase version) log = log ≡ log_from version desk.history desk.history.changes []

-- a log that an image may list
abbrev pub IsLogOf : Desk → Log → Type 0
IsLogOf desk log = (log ≡ log_from desk.version desk.history desk.past desk.rest) ⊎ IsInDoubt desk desk.doubt log

-- pages that an image may hold: any bytes where they are loose
abbrev pub ArePagesOf : Desk → (ℕ → List ℕ) → Type 0
ArePagesOf desk pages = (page : ℕ) → desk.loose page ≡ false → pages page ≡ desk.pages page

abbrev pub writes_of : Change → List PageImage
writes_of (Commit label writes) = writes
writes_of (Drop below) = []

abbrev pub writes_page : ℕ → Change → Bool
writes_page page change = is_among page (pages_of (writes_of change))

-- whether one of the changes writes the page
abbrev pub is_written : ℕ → List Change → Bool
is_written page changes = list_any (writes_page page) changes
