-- A log of mappings on a device in two halves.
use Rattle.std.specs.Prelude.{◌≡◌, ◌⊎◌, ◌+◌, ◌≤◌, ◌<◌, ◌^◌, ℕ, None, List, [], Result, OnOk, replicate}
use Rattle.std.specs.List.{AllByRecursion}
use Rattle.disk_model.specs.Disk.{State, IsDurable}
use Rattle.disk_model.specs.Moments.{Clock, LeavesOnly}
use Rattle.disk_model.specs.Sizes.{maplog_half}
use Rattle.retro_base.specs.declared.device.Device.TheVariants.{Maplog}
use Rattle.retro_base.specs.declared.limits.TheConstants.{MAX_CAPACITY, MAX_CAPTURES}
use Rattle.retro_base.specs.declared.refusal.Refusal.{Refusal}
use Rattle.gate_log.specs.Cause.{HasRoom}
use Rattle.area_log.specs.Area.{Area, AfterWrite, after_write, Holds}
use Rattle.area_log.specs.Listed.{closed_gate, DeviceStandsFor}
use Rattle.area_log.specs.Regions.{NoneCounts}
use Rattle.history.specs.declared.log.Version.{Version}
use Rattle.records.specs.Entries.{page_width}
use Rattle.records.specs.Maplog.{IsMaplog}
use Rattle.skippy.specs.Mappings.{Mappings, end_of}
use Rattle.map_log.specs.Bodies.{low_length, run_length}

-- the log, in records of a version, of a store of that many pages, and its capacity
pub record MapArea : Type 0 where
  pub area : Area
  pub version : Version
  pub page_count : ℕ
  pub capacity : ℕ

-- a log of the Maplog's device, of its size, in whose records the store's pages fit
pub record IsMapArea (log : MapArea) : Type 0 where
  pub device : log.area.log.device ≡ Maplog
  pub size : log.area.log.size ≡ maplog_half log.capacity
  pub fits : log.page_count ≤ 256 ^ page_width log.version
  pub most : log.capacity ≤ MAX_CAPACITY

-- a log that was read, of these sizes: it goes on
pub record IsFetched (version : Version) (page_count capacity : ℕ) (log : MapArea) : Type 0 where
  pub is : IsMapArea log
  pub going : log.area.fault ≡ None
  pub in_version : log.version ≡ version
  pub pages : log.page_count ≡ page_count
  pub images : log.capacity ≡ capacity

-- a low mark and a run of that many pages fit behind the list
abbrev pub HasRoomFor : MapArea → ℕ → Type 0
HasRoomFor log count = HasRoom log.area.log (low_length + 5 + run_length log.version count)

-- the log with another knowledge of its device
abbrev pub with_area : MapArea → Area → MapArea
with_area log area = record log { area = area }

-- the log behind a write, which has made its area `done` where it succeeded
pub record AfterCall (old : MapArea) (done : Area) (result : Result (Unit {0}) Refusal) (new : MapArea) : Type 0 where
  pub is : new ≡ with_area old (after_write old.area done result)
  pub after : AfterWrite old.area done result new.area

-- the device keeps these mappings as the log knows it, and all of it is durable
pub record Keeps (log : MapArea) (mappings : Mappings) (state : State) : Type 0 where
  pub bodies : List (List ℕ)
  pub stands : IsMaplog log.version log.page_count log.capacity bodies mappings
  pub holds : Holds log.area bodies state

-- a whole device lists these mappings, in records of the version and beside a log of these sizes
abbrev pub ListsMappings : Version → ℕ → ℕ → Mappings → List ℕ → Type 0
ListsMappings version page_count capacity mappings bytes =
    DeviceStandsFor (maplog_half capacity) (IsMaplog version page_count capacity) bytes mappings

-- the bytes list the one mappings or the other
abbrev pub ListsOneOf : MapArea → Mappings → Mappings → List ℕ → Type 0
ListsOneOf log mappings other bytes =
    ListsMappings log.version log.page_count log.capacity mappings bytes
    ⊎ ListsMappings log.version log.page_count log.capacity other bytes

-- A write that makes these mappings of those. After a success the device keeps them, durably. A crash at any moment
-- leaves the ones or the others.
pub record Puts {Disk : Type 0} (log after : MapArea) (mappings next : Mappings) (remembers : Type 0)
    (state : Disk → State) (clock : Disk → Clock) (old new : Disk) (result : Result (Unit {0}) Refusal) : Type 0 where
  pub keeps : OnOk result (Keeps after next (state new))
  pub any_moment : LeavesOnly remembers (clock old) (clock new) (ListsOneOf log mappings next)

-- mappings that may be kept: of pages of the store, and of no more than the most captures
pub record AreSound (page_count : ℕ) (mappings : Mappings) : Type 0 where
  pub end : end_of mappings ≤ MAX_CAPTURES
  pub pages : AllByRecursion (λ page. page < page_count) mappings.pages

-- the device lists these mappings, the log that was read keeps them, and it knows where the closed gate behind their
-- list stands
pub record FetchedMappings (log : MapArea) (mappings : Mappings) (old new : State) : Type 0 where
  pub lists : ListsMappings log.version log.page_count log.capacity mappings old.seen
  pub keeps : Keeps log mappings new
  pub closed : log.area.log.place + log.area.log.gate ≡ closed_gate lists

-- the mappings of a new archive: none, from 0 on
abbrev pub none_yet : Mappings
none_yet = record { low = 0; pages = [] }

-- Their list is made on a device of zeros. A crash at any moment leaves no list, or theirs.
pub record MakesNone {Disk : Type 0} (version : Version) (page_count capacity : ℕ) (remembers : Type 0)
    (state : Disk → State) (clock : Disk → Clock) (old new : Disk) (result : Result (Unit {0}) Refusal) : Type 0 where
  pub lists : OnOk result (ListsMappings version page_count capacity none_yet (state new).seen)
  pub durable : OnOk result (IsDurable (state new))
  pub any_moment : LeavesOnly remembers (clock old) (clock new) (λ image. NoneCounts (maplog_half capacity) image 0
      ⊎ ListsMappings version page_count capacity none_yet image)

-- a device of so many bytes that are all zero, and none of them loose
pub record IsBlank (extent : ℕ) (state : State) : Type 0 where
  pub zeros : state.seen ≡ replicate extent 0
  pub durable : IsDurable state
