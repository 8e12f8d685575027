-- A log of a base and of the changes behind it, on a device in two halves.
use Rattle.std.specs.Prelude.{◌≡◌, ◌⊎◌, ◌++◌, ℕ, List, [], ◌∷◌, Option, Some, None, Result, OnOk}
use Rattle.disk_model.specs.Disk.{State}
use Rattle.disk_model.specs.Moments.{Clock, LeavesOnly}
use Rattle.retro_base.specs.declared.device.Device.TheVariants as kinds
use Rattle.retro_base.specs.declared.limits.TheConstants.{LOG_REGION_BYTES}
use Rattle.retro_base.specs.declared.refusal.Refusal.{Refusal}
use Rattle.history.specs.declared.entry.Base.{Base}
use Rattle.history.specs.declared.entry.Change.{Change}
use Rattle.history.specs.declared.log.Log.{Log}
use Rattle.history.specs.declared.log.Version.{Version}
use Rattle.history.specs.History.{bases_after}
use Rattle.history.specs.Right.{AreRight, IsBase}
use Rattle.records.specs.Entries.{BaseFits}
use Rattle.records.specs.Log.{IsLog}
use Rattle.area_log.specs.Area.{Area, Holds}
use Rattle.area_log.specs.Listed.{DeviceStandsFor}

-- what the log knows of its device, and the version of its records
pub record Redo : Type 0 where
  pub area : Area
  pub version : Version

-- it is of the log's device, whose halves have that size
pub record IsRedo (redo : Redo) : Type 0 where
  pub device : redo.area.log.device ≡ kinds.Log
  pub size : redo.area.log.size ≡ LOG_REGION_BYTES

-- what a log says behind its changes
abbrev pub base_at_end : Log → Base
base_at_end log = bases_after log.base log.changes

-- the log with one change more
abbrev pub one_more : Log → Change → Log
one_more log change = record log { changes = log.changes ++ change ∷ [] }

-- the log of a base without changes
abbrev pub base_alone : Version → Base → Log
base_alone version base = record { version = version; base = base; changes = [] }

-- the device holds the bodies of this log, as the running one knows it
pub record Keeps (redo : Redo) (log : Log) (state : State) : Type 0 where
  pub bodies : List (List ℕ)
  pub stands : IsLog redo.version bodies log
  pub holds : Holds redo.area bodies state

-- a whole device lists the bodies of this log
abbrev pub ListsLog : Log → List ℕ → Type 0
ListsLog log bytes = DeviceStandsFor LOG_REGION_BYTES (IsLog log.version) bytes log

-- the bytes of the device list the one log or, where there is another, that
pub record ListsOneOf (sure : Log) (other : Option Log) (bytes : List ℕ) : Type 0 where
  pub log : Log
  pub may : (log ≡ sure) ⊎ (other ≡ Some log)
  pub lists : ListsLog log bytes

-- a log that was read of a device, whatever it tells: no write has failed, and the list is right in turn
pub record IsReadLog (version : Version) (redo : Redo) (log : Log) : Type 0 where
  pub known : IsRedo redo
  pub going : redo.area.fault ≡ None
  pub running : redo.version ≡ version
  pub bodies : List (List ℕ)
  pub stands : IsLog version bodies log
  pub listed : log.version ≡ version
  pub base : IsBase log.base
  pub fits : BaseFits version log.base
  pub changes : AreRight log.base log.changes

-- the device lists this log, and the running one holds it
pub record FetchedLog (version : Version) (redo : Redo) (log : Log) (old new : State) : Type 0 where
  pub lists : DeviceStandsFor LOG_REGION_BYTES (IsLog version) old.seen log
  pub keeps : Keeps redo log new

-- A write that makes the log `after` of a log. After a success it is kept. A crash at any moment leaves the one or the
-- other.
pub record WritesLog {Disk : Type 0} (redo : Redo) (log after : Log) (remembers : Type 0) (state : Disk → State)
    (clock : Disk → Clock) (old new : Disk) (result : Result (Unit {0}) Refusal) : Type 0 where
  pub keeps : OnOk result (Keeps redo after (state new))
  pub any_moment : LeavesOnly remembers (clock old) (clock new) (ListsOneOf log (Some after))
