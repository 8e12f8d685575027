-- What readers see of a store that was just opened, and of what a crash leaves of one that is closed.
use Rattle.std.specs.Prelude.{◌⊎◌, ℕ, List, Option, Some, None}
use Rattle.disk_model.specs.declared.four.Four.{Four}
use Rattle.disk_model.specs.Disk.{State}
use Rattle.history.specs.declared.entry.Change.{Change}
use Rattle.history.specs.declared.entry.Change.TheVariants.{Commit, Drop}
use Rattle.history.specs.declared.journal.Line.{Line}
use Rattle.history.specs.declared.journal.What.{What}
use Rattle.history.specs.declared.journal.What.TheVariants.{Done, Dropped}
use Rattle.history.specs.declared.log.Version.{Version}
use Rattle.history.specs.History.{History, now}
use Rattle.history.specs.Journal.{after_journal, pages_behind}
use Rattle.history.specs.Lines.{doubt_in}
use Rattle.history.specs.Sound.{IsSound}
use Rattle.journal_law.specs.Pages.{Pages, page_world}
use Rattle.journal_law.specs.World.{World, behind}
use Rattle.opening.specs.Devices.{AreImages}
use Rattle.opening.specs.Opening.{Hold}
use Rattle.race_model.specs.Fits.{HistoryFits}
use Rattle.replay.specs.Joined.{AreJoined}
use Rattle.replay.specs.Opened.{Contents, opened}
use Rattle.archive.specs.Archive.{Running}
use Rattle.store_core.specs.declared.desk_core.Core.{Core}
use Rattle.store.specs.declared.closing.Closed.{Closed}
use Rattle.store.specs.declared.start.Start.{Start}
use Rattle.store.specs.Closing.{Closes}
use Rattle.store.specs.Crashes.{OpensTo}
use Rattle.store.specs.Opening.{IsHonestlyOpened}
use Rattle.store.specs.Seats.{Sat}
use Rattle.store.specs.Start.{AreJustOpened}
use Rattle.store.specs.Ground.{ground_of, world_of}
use Rattle.store.specs.Worlds.{IsWorldOf}

-- what the line of a change says
abbrev pub what_of : Change → What
what_of (Commit label writes) = Done label writes
what_of (Drop below) = Dropped below

-- the world behind a change
abbrev pub changed_world : Change → World Pages → World Pages
changed_world change world = behind (pages_behind world.current (what_of change)) (what_of change) world

-- what readers see of the contents is this world, or that behind the change in doubt
abbrev pub ShowsOneOf : Contents → World Pages → Option Change → Type 0
ShowsOneOf contents world None = IsWorldOf (opened contents) world
ShowsOneOf contents world (Some change) =
    IsWorldOf (opened contents) world ⊎ IsWorldOf (opened contents) (changed_world change world)

-- Of contents that open to the history behind a sound journal, or to it with a change that may follow, readers see the
-- world behind that journal, or that behind the change.
abbrev pub OpensShown : Type 0
OpensShown = (history : History) (floor : ℕ) (world : World Pages) (lines : List Line) (doubt : Option Change)
    (contents : Contents)
    → HistoryFits history floor → IsWorldOf history world → IsSound (now history).base lines →
    OpensTo contents (after_journal history lines) doubt → ShowsOneOf contents (page_world world lines) doubt

-- the devices hold contents that belong together, in records of the version, and of which readers see so
pub record HoldShown (version : Version) (devices : Four (List ℕ)) (world : World Pages)
    (doubt : Option Change) : Type 0 where
  pub contents : Contents
  pub hold : Hold version devices contents
  pub joined : AreJoined contents
  pub shows : ShowsOneOf contents world doubt

-- Whatever a crash leaves of the four devices, readers see the world behind the lines, or that behind the one change
-- that they tell to be in doubt.
abbrev pub CrashesShow : {D : Type 0} → (D → State) → Version → World Pages → List Line → Four D → Type 0
CrashesShow state version world lines disks = (devices : Four (List ℕ)) → AreImages state disks devices
    → HoldShown version devices world (doubt_in lines)

module _ {D : Type 0} (is_honest : D → Type 0) (state : D → State) where
  -- Of the history that a store was just opened to readers see the pages that its devices and memory tell.
  abbrev pub OpeningShows : Type 0
  OpeningShows = (core : Core D) (archive : Running D) (just : AreJustOpened is_honest state core archive) →
      is_honest core.desk.pool.file.disk → is_honest archive.pagelog.disk
      → IsWorldOf just.origin.history (world_of state core archive)

  -- So readers see the world behind the journal of what a crash leaves of a store that is closed.
  abbrev pub ClosedShows : (D → ℕ) → Type 0
  ClosedShows faults = (start : Start D) (limit : ℕ) (seats : List (Sat D)) (left : Closed D)
      → Closes is_honest state faults start limit seats left
      → (just : AreJustOpened is_honest state start.core.value start.archive.value)
      → IsHonestlyOpened is_honest state start just.origin
      → CrashesShow state just.origin.log
      (page_world (ground_of state faults start).pages left.journal) left.journal left.disks
